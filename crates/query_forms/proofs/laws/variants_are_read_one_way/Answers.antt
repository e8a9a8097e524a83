use Rattle.query_forms.specs.Variants.{variants_form}
use Rattle.query_forms.proofs.QueryLaws.{read_one_way}
use Rattle.query_forms.proofs.VariantLaws.{variants_lawful}
use Rattle.query_forms.proofs.laws.variants_are_read_one_way.Goals as goal

pub returns : goal.returns
returns c = read_one_way variants_form variants_lawful
