use Rattle.std.proofs.Common.{◌≡◌, ◌++◌}
use Rattle.artifacts.specs.Requests.{digested}
use Rattle.artifacts.proofs.new_artifact.Digested.of.Given as goal

abbrev pub invariant-loop-new : goal.invariant-loop-new
invariant-loop-new l = record {
  made : l.all ≡ digested l.yielded;
  whole : l.fn.news.items ≡ l.yielded ++ l.new-iterator.rest.items;
}
