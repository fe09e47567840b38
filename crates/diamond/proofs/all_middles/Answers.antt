-- `diamond::all_middles` meets its contract.
use mathlib.Core.Path.{◌≡◌}
use mathlib.Core.Bool.{true, false}
use Prim.Native.Nat.{ℕ, ◌<◌}
use borrow.Author.Rules.{rules}
use Rattle.std.proofs.lemmas.Iterator.{YieldsList-from_slice, cases_from_all}
use Rattle.std.proofs.lemmas.Iterator.Adapters.{serves_from_places}
use Rattle.diamond.specs.Diamond.{is_middle}
use Rattle.diamond.proofs.TestLaws.{node-below, all-nodes}
use Rattle.diamond.proofs.all_middles.Goals as goal

pub all-requires-clause-callable : goal.all-requires-clause-callable
all-requires-clause-callable c =
    serves_from_places (YieldsList-from_slice _ c.iter.ensures.rest) (λ x q r. search rules)
    (λ x k h e. let b : x.now < c.args.n = node-below c.requires.0 h e in search rules)

pub returns : goal.returns
returns c =
    all-nodes c.all.result c.requires.0 (is_middle c.args.m c.args.es.now c.args.b)
    (cases_from_all _ _ _ (λ (v : ℕ). is_middle c.args.m c.args.es.now c.args.b v ≡ true) (λ (v : ℕ). is_middle c.args.m c.args.es.now c.args.b v ≡ false)
    c.all.ensures.ran (YieldsList-from_slice _ c.iter.ensures.rest) (λ x q k. search rules) (λ x q k. search rules))
