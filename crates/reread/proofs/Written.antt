-- A written record of a sound graph is refused with 3 or not at all. Assumes nothing.
use Prim.Native.Nat.{ℕ, ◌<◌}
use native.Mathlib.Omega.{arith}
use mathlib.Core.Path.{◌≡◌, sym, ap, ◌∙◌}
use mathlib.Core.Bool.{true, cond}
use mathlib.Core.List.{List}
use lib.ListN.{length, get_or}
use Rattle.defs.specs.Forms.{Form}
use Rattle.defs.specs.SeqGraph.{Edge, Graph}
use Rattle.defs.specs.Record.{RecordKind, record_kind_number, vertices_of, edges_of, edge_at, encode}
use Rattle.defs.specs.Refusals.{Takes, takes_kind, refusal_of, record_refusal}
use Rattle.laws.proofs.ListLaws.{at_mem}
use Rattle.cycle.proofs.CycleLaws.{ranked-no-cycle}
use Rattle.codec.proofs.Encoded.{length-written, vertices-read, edges-read, edge-read}
use Rattle.load.specs.Loaded.{Laid}
use Rattle.sound.specs.Alike.{no_edge}
use Rattle.reread.specs.GraphCauses.{graph_past_limit}
use Rattle.reread.specs.Recordable.{Recordable}
use Rattle.reread.proofs.Fields.{bytes-written, sum-written}
use Rattle.reread.proofs.Told.{whole-written, causes-told}
use Rattle.reread.proofs.Checks.{kind-right, kmers-right, ends-right, doubled-right, three-decides}

module _ (f : Form) (kind : RecordKind) (status : ℕ) (g : Graph) (ok : Recordable f kind status g) where
  -- a call that takes the record's kind refuses it with 3 where k or a count is past a limit of input, and else accepts it
  pub written-refusal : (t : Takes) → takes_kind t (record_kind_number kind) ≡ true
      → record_refusal t (encode f kind status g) ≡ cond (graph_past_limit f kind g) 3 0
  unfolding record_refusal
  written-refusal t k =
      ap refusal_of (causes-told f kind status g ok.encodable ok.whole t)
      ∙ three-decides f t kind status g
      (kind-right t status ok.status-most kind k (λ z. (ok.kmers z).status-none))
      (kmers-right g kind (λ z. (ok.kmers z).sizes))
      (ends-right g ok.good.0.bounded)
      (doubled-right g ok.good.1 kind (λ z. (ok.kmers z).distinct))
      (ranked-no-cycle g ok.good.0.rank ok.good.0.ranks)

  abbrev bs : List ℕ
  bs = encode f kind status g

  ends-are : (i : ℕ) → i < edges_of bs → ((edge_at bs i).from < vertices_of bs) × ((edge_at bs i).to < vertices_of bs)
  ends-are i h =
      let v = vertices-read f kind status g ok.encodable in
      let below : i < length g.edges = omega (arith, edges-read f kind status g ok.encodable) in
      let e : edge_at bs i ≡ get_or g.edges i no_edge = edge-read f kind status g ok.encodable no_edge i below in
      let b = ok.good.0.bounded (get_or g.edges i no_edge) (at_mem no_edge g.edges i below) in (
        omega (arith, ap (λ (x : Edge). x.from) e, b.0, v),
        omega (arith, ap (λ (x : Edge). x.to) e, b.1, v),
      )

  -- its parts lie where its counts say, whatever the limits of input
  pub written-laid : Laid (encode f kind status g)
  written-laid = record {
    whole = whole-written f kind status g ok.encodable ok.whole;
    small = omega (arith, length-written f kind status g, ok.whole);
    lengths = sum-written f kind status g ok.encodable ∙ sym (bytes-written f kind status g ok.whole);
    ends = ends-are;
  }
