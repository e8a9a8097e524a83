use Rattle.std.proofs.Common.{◌≡◌, ◌-◌, ◌++◌, length, take, replicate, ap, ◌∙◌, arith, vec_len}
use Rattle.tap_reader.specs.declared.entries.Says.TheVariants as says
use Rattle.tap_reader.specs.NamingViews.{names_of}
use Rattle.tap_reader.proofs.NamingLemmas.{names-resized}
use Rattle.tap_reader.proofs.cases.fit_path.Goals as goal

pub returns : goal.returns
returns c =
    let path = c.args.path.now in
    let level = c.args.level in
    let len : vec_len path ≡ length path.items = omega (arith, path.ok.0) in
    ap names_of c.in_ok-resize.ensures.items
    ∙ ap (λ k. names_of (take level path.items ++ replicate (level - k) says.Opened)) len
    ∙ names-resized level path.items
