-- What a body asks for is of its form.
use Rattle.message_forms.specs.Laws.{AskedIsOfForm}
use Rattle.message_forms.specs.Methods.{method_asked, said_in}
use Rattle.message_forms.proofs.MethodLaws.{lawful, said_means}
use Rattle.message_forms.proofs.RequestLaws.{own_fault}

pub asked_is_of_form : AskedIsOfForm
asked_is_of_form service name body q is =
    (lawful (method_asked q)).formed is.value (said_in q) (own_fault service name body q is) (said_means q is.value is.meant.1)
