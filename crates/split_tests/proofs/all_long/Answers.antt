-- `split_tests::all_long` meets its contract.
use mathlib.Core.Path.{◌≡◌}
use mathlib.Core.Bool.{true, false}
use Prim.Native.Nat.{ℕ, ◌<◌}
use borrow.Author.Rules.{rules}
use Rattle.std.proofs.lemmas.Iterator.{YieldsList-from_slice, cases_from_all}
use Rattle.std.proofs.lemmas.Iterator.Adapters.{serves_from_places}
use Rattle.split_tests.specs.SplitTests.{is_long}
use Rattle.diamond.proofs.TestLaws.{node-below, all-nodes}
use Rattle.split_tests.proofs.all_long.Goals as goal

pub all-requires-clause-callable : goal.all-requires-clause-callable
all-requires-clause-callable c =
    serves_from_places (YieldsList-from_slice _ c.iter.ensures.rest) (λ x q r. search rules)
    (λ x k h e. let b : x.now < c.args.n = node-below c.requires.1 h e in search rules)

pub returns : goal.returns
returns c =
    all-nodes c.all.result c.requires.1 (is_long c.args.vs.now c.args.s)
    (cases_from_all _ _ _ (λ (v : ℕ). is_long c.args.vs.now c.args.s v ≡ true) (λ (v : ℕ). is_long c.args.vs.now c.args.s v ≡ false)
    c.all.ensures.ran (YieldsList-from_slice _ c.iter.ensures.rest) (λ x q k. search rules) (λ x q k. search rules))
