-- `merge_suffices::merge_common_suffices` meets its contract.
use native.Mathlib.Omega.{arith}
use mathlib.Core.Path.{refl, ◌∙◌}
use Rattle.merge_suffices.proofs.MergeLaws.{
  merge-writable,
  end-high,
  edges-ready,
  merge-compactable,
  merge-packable,
  merged,
}
use Rattle.merge_suffices.proofs.merge_common_suffices.Goals as goal

pub write_merged-end-requires : goal.write_merged-end-requires
write_merged-end-requires c =
    merge-writable c.requires.0 c.requires.1.0 c.requires.1.1.1

pub overflow_cast-end : goal.overflow_cast-end
overflow_cast-end c =
    omega (
      arith,
      end-high c.requires.0 c.requires.1.0 c.requires.1.1.1 c.write_merged-end.ensures
          c.write_merged-end.auto.p,
      c.requires.0.small,
      c.requires.0.vertices-edges,
    )

pub redirect_merged-k-requires : goal.redirect_merged-k-requires
redirect_merged-k-requires c =
    edges-ready c.requires.0 c.requires.1.0 c.requires.1.1.1 c.requires.1.1.0

pub remove_merged-left-requires : goal.remove_merged-left-requires
remove_merged-left-requires c = (
  merge-compactable c.requires.0 c.requires.1.0 c.requires.1.1.1 c.write_merged-end.ensures
      c.write_merged-end.auto.p c.redirect_merged-k.ensures
      c.redirect_merged-k.auto.es c.put_vertex.auto.vs
      c.redirect_merged-k.auto.map,
  (
    record { room = c.requires.1.1.1.prevs.room; at = λ j b. omega (arith, c.requires.1.1.1.prevs.at j b) },
    omega (arith, c.requires.1.1.1.below),
  ),
)

pub pack-used-requires : goal.pack-used-requires
pack-used-requires c =
    merge-packable
    c.requires.0
    c.requires.1.0
    c.requires.1.1.1
    c.write_merged-end.ensures
    c.write_merged-end.auto.p
    c.redirect_merged-k.ensures
    c.put_vertex.ensures
    c.remove_merged-left.ensures refl
    (c.remove_merged-left.auto.vs ∙ c.put_vertex.auto.vs)

pub returns : goal.returns
returns c =
    merged
    c.requires.0
    c.requires.1.0
    c.requires.1.1.1
    c.write_merged-end.ensures
    c.write_merged-end.auto.p
    c.redirect_merged-k.ensures
    c.put_vertex.ensures
    c.remove_merged-left.ensures
    c.pack-used.ensures
    c.pack-used.auto.p
