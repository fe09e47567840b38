-- `merge_diamond::first_follower` meets its contract.
use mathlib.Core.Path.{◌∙◌, refl}
use Rattle.merge_diamond.proofs.MergeLaws.{follower-there, follower-none}
use Rattle.merge_diamond.proofs.first_follower.Goals as goal

pub returns-then-e-m : goal.returns-then-e-m
returns-then-e-m c =
    c.edge_to.ensures ∙ follower-there c.requires.1 c.requires.0 refl c.if-e-m.true

pub returns : goal.returns
returns c = follower-none c.requires.1 c.requires.0 refl c.if-e-m.false
