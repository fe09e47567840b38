-- `split_tests::all_one_out` meets its contract.
use mathlib.Core.Path.{◌≡◌}
use mathlib.Core.Bool.{true, false}
use Prim.Native.Nat.{ℕ, ◌<◌}
use borrow.Author.Rules.{rules}
use Rattle.std.proofs.lemmas.Iterator.{YieldsList-from_slice, cases_from_all}
use Rattle.std.proofs.lemmas.Iterator.Adapters.{serves_from_places}
use Rattle.split_tests.specs.SplitTests.{one_out}
use Rattle.diamond.proofs.TestLaws.{node-below, all-nodes}
use Rattle.split_tests.proofs.all_one_out.Goals as goal

pub all-requires-clause-callable : goal.all-requires-clause-callable
all-requires-clause-callable c =
    serves_from_places (YieldsList-from_slice _ c.iter.ensures.rest) (λ x q r. search rules)
    (λ x k h e. let b : x.now < c.args.n = node-below c.requires.0 h e in search rules)

pub returns : goal.returns
returns c =
    all-nodes c.all.result c.requires.0 (one_out c.args.m c.args.es.now)
    (cases_from_all _ _ _ (λ (v : ℕ). one_out c.args.m c.args.es.now v ≡ true) (λ (v : ℕ). one_out c.args.m c.args.es.now v ≡ false)
    c.all.ensures.ran (YieldsList-from_slice _ c.iter.ensures.rest) (λ x q k. search rules) (λ x q k. search rules))
