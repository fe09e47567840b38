-- `signature::replace_signature` meets its contract.
use mathlib.Core.Path.{refl, sym, ◌∙◌}
use borrow.Author.Tests.{eq-eqb, ne_eqb}
use Rattle.signature.proofs.SignLaws.{vertices-room, edges_room, signed}
use Rattle.signature.proofs.replace_signature.Goals as goal

pub put_vertices-vertices-requires : goal.put_vertices-vertices-requires
put_vertices-vertices-requires c =
    (c.requires.vertices, vertices-room c.requires c.put-first.ensures c.put-counts.ensures (c.put-counts.auto.sig ∙ c.put-first.auto.sig))

pub put_edges-s-requires : goal.put_edges-s-requires
put_edges-s-requires c =
    let same-long = c.put_vertices-vertices.auto.sig ∙ c.put-counts.auto.sig ∙ c.put-first.auto.sig in
    (c.requires.edges, edges_room c.requires c.put-first.ensures c.put-counts.ensures c.put_vertices-vertices.ensures same-long)

pub returns-then-s : goal.returns-then-s
returns-then-s c =
    signed
    c.requires
    c.put-first.ensures
    c.put-counts.ensures
    c.put_vertices-vertices.ensures
    c.put_edges-s.ensures
    (λ q. eq-eqb _ _ q ∙ sym c.if-s.true)
    (λ o. ne_eqb _ _ o)

pub returns-else-s : goal.returns-else-s
returns-else-s c =
    signed
    c.requires
    c.put-first.ensures
    c.put-counts.ensures
    c.put_vertices-vertices.ensures
    c.put_edges-s.ensures
    (λ q. refl)
    (λ o. c.if-s.false)
