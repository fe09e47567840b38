-- The rounds. Assumes nothing.
use mathlib.Core.Path.{◌≡◌, refl, sym, ap, ◌∙◌}
use mathlib.Core.Bool.{true, false}
use mathlib.Core.List.{List, []}
use Prim.Native.Nat.{ℕ, suc, ◌+◌, ◌*◌, ◌-◌, ◌≤◌, ◌<◌}
use native.Mathlib.Nat.{mul-le-mul_right, suc-mul}
use native.Mathlib.Numerals.{add-one}
use native.Mathlib.Omega.{arith}
use lib.ListN.{length, get_or}
use lib.Dec.{eqb, ltb}
use borrow.Author.Tests.{eq-eqb, ne_eqb, lt-ltb, le-ltb}
use Rattle.defs.specs.Lists.{same_list}
use Rattle.defs.specs.SeqGraph.{Graph}
use Rattle.defs.specs.Zip as Z
use Rattle.defs.specs.Simplify as S
use Rattle.defs.specs.Simplify.{simplify_graph_once, graph_topology_signature, rounds_from, simplified, end_number, quiet, repeated, full}
use Rattle.tabs.proofs.Tabs.{tab-zero}
use Rattle.store.specs.Store.{nums_in}
use Rattle.memory.specs.Memory.{graph_of, work_of, vertex_room, signature_room, Ready, Countable}
use Rattle.memory.specs.declared.Work.{Work}
use Rattle.memory.proofs.RoomLaws.{fit-vertices, fit_edges, fit-bytes, held-vertices, held-edges, held-ends, held-pool, holds_kept}
use Rattle.signature.specs.Signature.{stored_signature, SignatureWritable, Signature}
use Rattle.signature.proofs.StoredLaws.{stored_same, none-stored, stored-long}
use Rattle.signature.specs.declared.Signed.{Signed}
use Rattle.rounds.specs.Rounds.{Once, Whole}

-- ---- the definition, case by case
module _ (least k n : ℕ) (sig : List ℕ) (w : Z.Work) where
  next : Z.Work
  next = simplify_graph_once least w

  rounds-quiet : eqb (simplify_graph_once least w).rewrites w.rewrites ≡ true → rounds_from least (suc k) n sig w
      ≡ simplified (simplify_graph_once least w) (suc n) quiet
  unfolding rounds_from
  rounds-quiet t = rw (t, rounds_from)

  rounds-early : eqb (simplify_graph_once least w).rewrites w.rewrites ≡ false → ltb n 6 ≡ true → rounds_from least (suc k) n sig w
      ≡ rounds_from least k (suc n) sig (simplify_graph_once least w)
  unfolding rounds_from
  rounds-early t s = rw (t, rounds_from) (rw s)

  rounds-repeated : eqb (simplify_graph_once least w).rewrites w.rewrites ≡ false → ltb n 6 ≡ false
      → same_list sig (graph_topology_signature (simplify_graph_once least w).graph) ≡ true
      → rounds_from least (suc k) n sig w ≡ simplified (simplify_graph_once least w) (suc n) repeated
  unfolding rounds_from
  rounds-repeated t s e = rw (t, rounds_from) (rw s (rw e))

  rounds-on : eqb (simplify_graph_once least w).rewrites w.rewrites ≡ false → ltb n 6 ≡ false
      → same_list sig (graph_topology_signature (simplify_graph_once least w).graph) ≡ false
      → rounds_from least (suc k) n sig w ≡ rounds_from least k (suc n) (graph_topology_signature (simplify_graph_once least w).graph) (simplify_graph_once least w)
  unfolding rounds_from
  rounds-on t s e = rw (t, rounds_from) (rw s (rw e))

rounds-full : (least n : ℕ) (sig : List ℕ) (w : Z.Work) → rounds_from least 0 n sig w ≡ simplified w n full
unfolding rounds_from
rounds-full least n sig w = refl

three : 3 ≡ end_number full
unfolding end_number
three = refl

-- ---- the loop

-- after n rounds: `last` is the signature that the definition has from the round before, and the slice holds it as it is stored
pub record Rounding (least : ℕ) (w₀ : Work) (es₀ vs₀ p₀ heads₀ sig₀ : List ℕ) (w : Work) (es vs p heads nexts nodes mp sig : List ℕ) (n old : ℕ) : Type 0 where
  pub high : n ≤ 100
  pub ready : Ready least w.held es vs p heads nexts nodes mp
  pub heads-len : length heads ≡ length heads₀
  pub sig-len : length sig ≡ length sig₀
  pub old-room : old ≤ length sig
  pub count : w.rewrites ≤ w₀.rewrites + n * (5 * vertex_room heads₀)
  pub last : List ℕ
  pub stored : (g : Graph) → same_list (nums_in old sig) (stored_signature g) ≡ same_list last (graph_topology_signature g)
  pub is : rounds_from least (100 - n) n last (work_of w es vs p) ≡ rounds_from least 100 0 [] (work_of w₀ es₀ vs₀ p₀)

module _ {least : ℕ} {w₀ : Work} {es₀ vs₀ p₀ heads₀ sig₀ : List ℕ} where
  pub rounding-start : {nexts nodes mp : List ℕ} → Ready least w₀.held es₀ vs₀ p₀ heads₀ nexts nodes mp
      → Rounding least w₀ es₀ vs₀ p₀ heads₀ sig₀ w₀ es₀ vs₀ p₀ heads₀ nexts nodes mp sig₀ 0 0
  rounding-start R = record {
    high = omega arith;
    ready = R;
    heads-len = refl;
    sig-len = refl;
    old-room = omega arith;
    count = omega arith;
    last = [];
    stored = λ g. ap (λ (l : List ℕ). same_list l (stored_signature g)) (tab-zero (λ (i : ℕ). get_or sig₀ i 0)) ∙ none-stored g;
    is = refl;
  }

  module _ {w : Work} {es vs p heads nexts nodes mp sig : List ℕ} {n old : ℕ} (Q :
      Rounding least w₀ es₀ vs₀ p₀ heads₀ sig₀ w es vs p heads nexts nodes mp sig n old) where
    pub round-countable : n < 100 → Countable 500 w₀.rewrites heads₀ → Countable 5 w.rewrites heads
    round-countable h C = record { small = rw Q.heads-len (omega (arith, Q.count, C.small, most)) }
      where
        most : (n + 1) * (5 * vertex_room heads₀) ≤ 500 * vertex_room heads₀
        most = bound (n + 1) (omega arith)
          where
            bound : (x : ℕ) → x ≤ 100 → x * (5 * vertex_room heads₀) ≤ 500 * vertex_room heads₀
            bound x b = omega (arith, mul-le-mul_right (5 * vertex_room heads₀) b)

    module _ (h : n < 100) {r : Work} {es' vs' p' heads' nexts' nodes' mp' : List ℕ} (O :
        Once least w es vs p r es' vs' p' heads' nexts' nodes' mp') (lh : length heads' ≡ length heads) where
      fuel-is : 100 - n ≡ suc (100 - (n + 1))
      fuel-is = omega arith

      turn : rounds_from least (suc (100 - (n + 1))) n Q.last (work_of w es vs p) ≡ rounds_from least 100 0 [] (work_of w₀ es₀ vs₀ p₀)
      turn = ap (λ (x : ℕ). rounds_from least x n Q.last (work_of w es vs p)) (sym fuel-is) ∙ Q.is

      rewrites-is : r.rewrites ≡ (simplify_graph_once least (work_of w es vs p)).rewrites
      rewrites-is = ap (λ (x : Z.Work). x.rewrites) O.is

      graph_is : graph_of r.held es' vs' p' ≡ (simplify_graph_once least (work_of w es vs p)).graph
      graph_is = ap (λ (x : Z.Work). x.graph) O.is

      ended : (e : S.End) (k : ℕ) → k ≡ end_number e → {heads'' nexts'' : List ℕ} → length heads'' ≡ length heads' → length nexts''
          ≡ length nexts' → rounds_from least 100 0 [] (work_of w₀ es₀ vs₀ p₀)
          ≡ simplified (simplify_graph_once least (work_of w es vs p)) (suc n) e
          → Whole least w₀ es₀ vs₀ p₀ heads'' nexts'' record { held = r.held; rewrites = r.rewrites; rounds = n + 1; end = k } es' vs' p'
      unfolding simplified
      ended e k q a b i = record {
        answers = record {
          graph = graph_is ∙ sym (ap (λ (x : S.Simplified). x.graph) i);
          rewrites = rewrites-is ∙ sym (ap (λ (x : S.Simplified). x.rewrites) i);
          rounds = add-one n ∙ sym (ap (λ (x : S.Simplified). x.rounds) i);
          end = q ∙ ap end_number (sym (ap (λ (x : S.Simplified). x.end) i));
        };
        holds = holds_kept O.ready.holds a b;
      }

      pub round-quiet : {heads'' nexts'' : List ℕ} → length heads'' ≡ length heads' → length nexts'' ≡ length nexts' → r.rewrites ≡ w.rewrites
          → Whole least w₀ es₀ vs₀ p₀ heads'' nexts'' record { held = r.held; rewrites = r.rewrites; rounds = n + 1; end = 1 } es' vs' p'
      round-quiet a b e = ended quiet 1 (unfold end_number in refl) a b (sym turn
          ∙ rounds-quiet least (100 - (n + 1)) n Q.last (work_of w es vs p) (eq-eqb _ _ (sym rewrites-is ∙ e)))

      module _ (o : r.rewrites ≡ w.rewrites → ⊥) where
        worked : eqb (simplify_graph_once least (work_of w es vs p)).rewrites w.rewrites ≡ false
        worked = ne_eqb _ _ (λ z. o (rewrites-is ∙ z))

        more : (n + 1) * (5 * vertex_room heads₀) ≡ n * (5 * vertex_room heads₀) + 5 * vertex_room heads₀
        more = ap (λ (x : ℕ). x * (5 * vertex_room heads₀)) (add-one n) ∙ suc-mul n (5 * vertex_room heads₀)

        pub round-early : n + 1 < 7 → Rounding least w₀ es₀ vs₀ p₀ heads₀ sig₀ r es' vs' p' heads' nexts' nodes' mp' sig (n + 1) old
        round-early e = record {
          high = omega arith;
          ready = O.ready;
          heads-len = lh ∙ Q.heads-len;
          sig-len = Q.sig-len;
          old-room = Q.old-room;
          count = omega (arith, Q.count, O.most, more, lh, Q.heads-len);
          last = Q.last;
          stored = Q.stored;
          is = (λ j. rounds_from least (100 - (n + 1)) (add-one n j) Q.last (O.is j))
              ∙ sym (rounds-early least (100 - (n + 1)) n Q.last (work_of w es vs p) worked (lt-ltb n 6 (omega arith))) ∙ turn;
        }

        pub round-writable : signature_room heads' nexts' ≤ length sig₀ → SignatureWritable sig old r.held es' vs' p'
        round-writable b =
            let R = O.ready.room in
            let H = O.ready.holds in
            record {
              vertices = record {
                small = omega (arith, held-vertices H, R.vertices-edges, R.small);
                vs-room = omega (arith, held-vertices H, R.vs-room);
                within = held-pool H R;
              };
              edges = record {
                es-room = omega (arith, held-edges H, R.es-room);
                small = λ i c. omega (arith, ((held-ends H).at i c).1, held-vertices H, R.vertices-edges, R.small);
              };
              small-m = omega (arith, held-edges H, R.small);
              room = record {
                old-room = Q.old-room;
                room = omega (
                  arith,
                  stored-long (graph_of r.held es' vs' p'),
                  fit-vertices H.fit,
                  fit-bytes H.fit,
                  fit_edges H.fit,
                  b,
                  Q.sig-len,
                );
              };
            }

        module _ (e : 7 ≤ n + 1) {s : Signed} {sig' : List ℕ} (G : Signature sig old r.held es' vs' p' s sig') where
          late : ltb n 6 ≡ false
          late = le-ltb n 6 (omega arith)

          same-is : s.same ≡ same_list Q.last (graph_topology_signature (simplify_graph_once least (work_of w es vs p)).graph)
          same-is = G.same ∙ Q.stored (graph_of r.held es' vs' p') ∙ ap (λ (x : Graph). same_list Q.last (graph_topology_signature x)) graph_is

          pub round-repeated : {heads'' nexts'' : List ℕ} → length heads'' ≡ length heads' → length nexts'' ≡ length nexts' → s.same ≡ true
              → Whole least w₀ es₀ vs₀ p₀ heads'' nexts'' record { held = r.held; rewrites = r.rewrites; rounds = n + 1; end = 2 } es' vs' p'
          round-repeated a b t = ended repeated 2 (unfold end_number in refl) a b (sym turn
              ∙ rounds-repeated least (100 - (n + 1)) n Q.last (work_of w es vs p) worked late (sym same-is ∙ t))

          pub round-on : s.same ≡ false → length sig' ≡ length sig
              → Rounding least w₀ es₀ vs₀ p₀ heads₀ sig₀ r es' vs' p' heads' nexts' nodes' mp' sig' (n + 1) s.at
          round-on t l = record {
            high = omega arith;
            ready = O.ready;
            heads-len = lh ∙ Q.heads-len;
            sig-len = l ∙ Q.sig-len;
            old-room = omega (arith, G.room, l);
            count = omega (arith, Q.count, O.most, more, lh, Q.heads-len);
            last = graph_topology_signature (simplify_graph_once least (work_of w es vs p)).graph;
            stored = λ g. ap (λ (l : List ℕ). same_list l (stored_signature g)) G.is ∙ stored_same (graph_of r.held es' vs' p') g
                ∙ ap (λ (x : Graph). same_list (graph_topology_signature x) (graph_topology_signature g)) graph_is;
            is = (λ j. rounds_from least (100 - (n + 1)) (add-one n j) (graph_topology_signature (simplify_graph_once least (work_of w es vs p)).graph) (O.is j))
                ∙ sym (rounds-on least (100 - (n + 1)) n Q.last (work_of w es vs p) worked late (sym same-is ∙ t)) ∙ turn;
          }

    pub round-full : 100 ≤ n → {heads'' nexts'' : List ℕ} → length heads'' ≡ length heads → length nexts'' ≡ length nexts
        → Whole least w₀ es₀ vs₀ p₀ heads'' nexts'' record { held = w.held; rewrites = w.rewrites; rounds = n; end = 3 } es vs p
    unfolding simplified
    round-full b a c =
        let z : 100 - n ≡ 0 = omega (arith, Q.high) in
        let i : rounds_from least 100 0 [] (work_of w₀ es₀ vs₀ p₀) ≡ simplified (work_of w es vs p) n full = sym Q.is
        ∙ ap (λ (x : ℕ). rounds_from least x n Q.last (work_of w es vs p)) z
        ∙ rounds-full least n Q.last (work_of w es vs p) in
        record {
          answers = record {
            graph = sym (ap (λ (x : S.Simplified). x.graph) i);
            rewrites = sym (ap (λ (x : S.Simplified). x.rewrites) i);
            rounds = sym (ap (λ (x : S.Simplified). x.rounds) i);
            end = three ∙ ap end_number (sym (ap (λ (x : S.Simplified). x.end) i));
          };
          holds = holds_kept Q.ready.holds a c;
        }
