-- From the tests of a record to the room of its class: arrays of these lengths are enough to read and to rewrite it. Assumes nothing.
use mathlib.Core.Path.{◌≡◌, ap, subst}
use mathlib.Core.List.{List}
use Prim.Native.Nat.{ℕ, ◌+◌, ◌/◌, ◌≤◌, ◌<◌}
use native.Mathlib.Omega.{arith}
use lib.ListN.{length}
use Rattle.defs.specs.Forms.{Form, sgr1, sgr2, form_of, limits}
use Rattle.defs.specs.Record.{vertices_of, edges_of, bytes_of}
use Rattle.form.specs.declared.Form as Code
use Rattle.form.specs.Coded.{form_is, word_limit}
use Rattle.form.proofs.FormLaws.{sizes, limits-small}
use Rattle.record.specs.Headed.{Headed}
use Rattle.record.proofs.Sequences.{length-least}
use Rattle.accept.specs.Accept.{RoomToRead, RoomToMark}
use Rattle.arrays.specs.declared.ReadingClass.{ReadingClass}
use Rattle.arrays.specs.declared.ReadingClass.TheVariants.{Small, Large, Vast}
use Rattle.arrays.specs.Classes.{vertices_to_read, edges_to_read}
use Rattle.arrays.specs.Sized.{FewToRead, ClassToRead, SizedToRead, SizedToMark, FewToRewrite, ClassToRewrite, CountedAt, LentGraph, Lent}
use Rattle.arrays.specs.Sized.{SizedGraph, Sized}

-- ---- the tests

first-limits : {f : Form} → f ≡ sgr1 → ((limits f).vertices ≡ 2048) × ((limits f).edges ≡ 4096) × ((limits f).bytes ≡ 8192)
unfolding limits
first-limits e = (ap (λ (g : Form). (limits g).vertices) e, ap (λ (g : Form). (limits g).edges) e, ap (λ (g : Form). (limits g).bytes) e)

-- so many vertices and edges are a class to read
pub class-to-read : {v e : ℕ} {bs : List ℕ} → FewToRead v e bs → v ≤ e → v ≤ 32768 → e ≤ 65536 → ClassToRead v e bs
class-to-read F more vertices edges = record { few = F; more_edges = more; vertices-most = vertices; edges-most = edges }

module _ (bs : List ℕ) where
  -- for every record, within the limits of SGR2
  pub all-to-read : ClassToRead 32768 65536 bs
  all-to-read =
      let most = limits-small (form_of bs) in
      class-to-read record { vertices = λ W. omega (arith, W.vertices, most.vertices); edges = λ W. omega (arith, W.edges, most.edges) }
      (omega arith) (omega arith) (omega arith)

  pub all-to-rewrite : FewToRewrite 163840 262144 bs
  all-to-rewrite =
      let most = limits-small (form_of bs) in
      record {
        reading = record { vertices = λ W. omega (arith, W.vertices, most.vertices); edges = λ W. omega (arith, W.edges, most.edges) };
        vertices = λ W k. omega (arith, W.vertices, most.vertices);
        weight = λ W k. omega (arith, W.vertices, W.bytes k, most.vertices, most.bytes);
        edges = λ W k. omega (arith, W.edges, W.bytes k, most.edges, most.bytes);
      }

  -- for every record of SGR1, within its own
  module _ (e : form_of bs ≡ sgr1) where
    pub first-to-read : ClassToRead 2048 4096 bs
    first-to-read =
        let most = first-limits e in
        class-to-read record { vertices = λ W. omega (arith, W.vertices, most.0); edges = λ W. omega (arith, W.edges, most.1) }
        (omega arith) (omega arith) (omega arith)

    pub first-to-rewrite : FewToRewrite 10241 16385 bs
    first-to-rewrite =
        let most = first-limits e in
        record {
          reading = record { vertices = λ W. omega (arith, W.vertices, most.0); edges = λ W. omega (arith, W.edges, most.1) };
          vertices = λ W k. omega (arith, W.vertices, most.0);
          weight = λ W k. omega (arith, W.vertices, W.bytes k, most.0, most.2);
          edges = λ W k. omega (arith, W.edges, W.bytes k, most.1, most.2);
        }

  -- for a record of at most so many bytes, which are 32 at least, two at least for each vertex, nine for each edge, and the sequences
  pub short-to-read : length bs ≤ 1024 → ClassToRead 512 512 bs
  short-to-read l =
      class-to-read record { vertices = λ W. omega (arith, length-least bs W); edges = λ W. omega (arith, length-least bs W) }
      (omega arith) (omega arith) (omega arith)

  pub short-to-rewrite : (v e : ℕ) → length bs ≤ v → v / 4 + v ≤ e → FewToRewrite v e bs
  short-to-rewrite v e l m = record {
    reading = record { vertices = λ W. omega (arith, length-least bs W); edges = λ W. omega (arith, length-least bs W) };
    vertices = λ W k. omega (arith, length-least bs W);
    weight = λ W k. omega (arith, length-least bs W);
    edges = λ W k. omega (arith, length-least bs W);
  }

  -- for a record whose counts say so; past the small class by its length it has a header
  pub long-headed : {form : Code.Form} → form_is form ≡ form_of bs → 1024 < length bs → Headed form bs
  long-headed is l = record { is = is; long = omega (arith, (sizes (form_of bs)).header-most) }

  pub counts-read : {v e b : ℕ} → v ≡ vertices_of bs → e ≡ edges_of bs → b ≡ bytes_of bs → CountedAt (v + b) (e + b / 4) bs
  counts-read v e b = record { weight_is = λ i. v i + b i; surplus-is = λ i. e i + b i / 4 }

  pub counted-to-read : {v e : ℕ} → vertices_of bs ≤ v → edges_of bs ≤ e → FewToRead v e bs
  counted-to-read v e = record { vertices = λ W. v; edges = λ W. e }

  pub counted-to-rewrite : {w s v e : ℕ} → CountedAt w s bs → w < v → s + v ≤ e → FewToRewrite v e bs
  counted-to-rewrite {w} {s} C v e =
      let q = C.weight_is in
      let r = C.surplus-is in
      record {
        reading = record { vertices = λ W. omega (arith, v, q); edges = λ W. omega (arith, e, r) };
        vertices = λ W k. omega (arith, v, q);
        weight = λ W k. omega (arith, v, q);
        edges = λ W k. omega (arith, e, r);
      }

-- the class that was chosen
module _ {c : ReadingClass} {bs : List ℕ} (C : ClassToRead (vertices_to_read c) (edges_to_read c) bs) where
  of-class : {d : ReadingClass} → c ≡ d → ClassToRead (vertices_to_read d) (edges_to_read d) bs
  of-class q = subst (λ (d : ReadingClass). ClassToRead (vertices_to_read d) (edges_to_read d) bs) q C

  pub is-small : c ≡ Small → ClassToRead 512 512 bs
  unfolding vertices_to_read edges_to_read
  is-small q = of-class q

  pub is-large : c ≡ Large → ClassToRead 2048 4096 bs
  unfolding vertices_to_read edges_to_read
  is-large q = of-class q

  pub is-vast : c ≡ Vast → ClassToRead 32768 65536 bs
  unfolding vertices_to_read edges_to_read
  is-vast q = of-class q

-- ---- the arrays

module _ {v e : ℕ} {bs es vs heads nexts nodes mp : List ℕ} (F : FewToRead v e bs) where
  pub room-to-read : SizedToRead v e es vs heads nexts nodes mp → RoomToRead bs es vs heads nexts nodes mp
  room-to-read Z = record {
    room = λ W. let a = F.vertices W in let b = F.edges W in record {
      es-room = omega (arith, b, Z.es-is);
      vs-room = omega (arith, a, Z.vs-is);
      heads-room = omega (arith, a, Z.heads-is);
      nexts-room = omega (arith, b, Z.nexts-is);
      nodes-room = omega (arith, a, Z.nodes-is);
      mp-room = omega (arith, a, Z.mp-is);
    };
  }

  pub room-to-mark : {marks : List ℕ} → SizedToMark v e es vs heads nexts nodes mp marks → RoomToMark bs es vs heads nexts nodes mp marks
  room-to-mark Z = record { reading = room-to-read Z.reading; marks-room = λ W. omega (arith, F.vertices W, Z.marks-is) }

-- the same slices when they were written to: still as long
pub room-to-mark-kept : {bs es vs heads nexts nodes mp marks es' vs' heads' nexts' nodes' mp' marks' : List ℕ}
    → RoomToMark bs es vs heads nexts nodes mp marks → length es' ≡ length es → length vs' ≡ length vs → length heads' ≡ length heads
    → length nexts' ≡ length nexts → length nodes' ≡ length nodes → length mp' ≡ length mp → length marks' ≡ length marks
    → RoomToMark bs es' vs' heads' nexts' nodes' mp' marks'
room-to-mark-kept R a b c d e f g = record {
  reading = record {
    room = λ W. let r = R.reading.room W in record {
      es-room = omega (arith, a, r.es-room);
      vs-room = omega (arith, b, r.vs-room);
      heads-room = omega (arith, c, r.heads-room);
      nexts-room = omega (arith, d, r.nexts-room);
      nodes-room = omega (arith, e, r.nodes-room);
      mp-room = omega (arith, f, r.mp-room);
    };
  };
  marks-room = λ W. omega (arith, g, R.marks-room W);
}

fits-second : {f : Form} {e : ℕ} → f ≡ sgr2 → e ≤ 262144 → e < word_limit f
unfolding word_limit
fits-second q h = omega (arith, ap word_limit q)

-- the class that is enough to rewrite a record: what fits 16 bits fits both forms, and more fits SGR2 alone
module _ {v e : ℕ} {bs : List ℕ} (F : FewToRewrite v e bs) (more_edges : v ≤ e) where
  pub both-class : e < 65536 → ClassToRewrite v e bs
  both-class few = record {
    few = F;
    more_edges = more_edges;
    vertices-most = omega arith;
    edges-most = omega arith;
    fits = omega (arith, (sizes (form_of bs)).limit-least);
  }

  pub second-class : form_of bs ≡ sgr2 → v ≤ 163840 → e ≤ 262144 → ClassToRewrite v e bs
  second-class second few few-edges = record {
    few = F;
    more_edges = more_edges;
    vertices-most = few;
    edges-most = few-edges;
    fits = fits-second second few-edges;
  }

module _ {v e : ℕ} {bs es vs p heads nexts nodes mp : List ℕ} (C : ClassToRewrite v e bs) where
  graph-lent : SizedGraph v e es vs p heads nexts nodes mp → LentGraph bs es vs p heads nexts nodes mp
  graph-lent Z = record {
    room = record {
      es-room = omega (arith, Z.nexts-is, Z.es-is);
      vs-room = omega (arith, Z.heads-is, Z.vs-is);
      p-room = omega (arith, Z.heads-is, Z.p-is);
      nodes-room = omega (arith, Z.nexts-is, Z.nodes-is);
      map-room = omega (arith, Z.heads-is, Z.mp-is);
      vertices-edges = omega (arith, C.more_edges, Z.heads-is, Z.nexts-is);
      small = omega (arith, C.edges-most, Z.nexts-is);
    };
    reading = record {
      room = λ W. let a = C.few.reading.vertices W in let b = C.few.reading.edges W in record {
        es-room = omega (arith, b, Z.es-is);
        vs-room = omega (arith, a, Z.vs-is);
        heads-room = omega (arith, a, Z.heads-is);
        nexts-room = omega (arith, b, Z.nexts-is);
        nodes-room = omega (arith, a, C.more_edges, Z.nodes-is);
        mp-room = omega (arith, a, Z.mp-is);
      };
    };
    roomy = record {
      vertices = λ W k. omega (arith, Z.heads-is, C.few.vertices W k);
      weight = λ W k. omega (arith, Z.heads-is, C.few.weight W k);
      edges = λ W k. omega (arith, Z.heads-is, Z.nexts-is, C.few.edges W k);
    };
    fits = record {
      vertices = omega (arith, Z.heads-is, C.more_edges, C.fits);
      edges = omega (arith, Z.nexts-is, C.fits);
      vertices-most = omega (arith, C.vertices-most, Z.heads-is);
      edges_most = omega (arith, C.edges-most, Z.nexts-is);
    };
  }

  pub class-lent : {starts tried sig : List ℕ} → Sized v e es vs p heads nexts nodes mp starts tried sig
      → Lent bs es vs p heads nexts nodes mp starts tried sig
  class-lent Z = record {
    graph = graph-lent Z.graph;
    scratch = record { starts-room = omega (arith, Z.graph.heads-is, Z.starts_is); tried-room = omega (arith, Z.graph.heads-is, Z.tried-is) };
    sig-room = omega (arith, Z.graph.heads-is, Z.graph.nexts-is, Z.sig-is);
  }
