-- One chain absorbed, or none. Assumes nothing.
use mathlib.Core.Path.{◌≡◌, refl, sym, ap, ◌∙◌, subst}
use mathlib.Core.Bool.{Bool, true, false}
use mathlib.Core.List.{List, [], ◌∷◌, ◌++◌, map}
use Prim.Native.Nat.{ℕ, ◌+◌, ◌*◌, ◌-◌, ◌≤◌, ◌<◌}
use native.Mathlib.Omega.{arith}
use lib.ListN.{length, get_or, set}
use Rattle.defs.specs.Lists.{concat, sum}
use Rattle.defs.specs.SeqGraph.{Graph}
use Rattle.defs.specs.Zip.{trace_linear_chain, last_of, linear_chain}
use Rattle.laws.proofs.ListLaws.{by_order}
use Rattle.laws.proofs.Counts.{total}
use Rattle.laws.proofs.SplitCounts.{length-flat-map}
use Rattle.laws.proofs.Whole.{by_list}
use Rattle.laws.proofs.Quiet.{chain-none}
use Rattle.all_chains.proofs.Traces.{linear-yes}
use Rattle.tabs.proofs.Tabs.{length-tab, tab-zero, tab-ext}
use Rattle.store.specs.Store.{seq_in, seqs_in, graph_in, nums_in, nodes_length, Within, put_vertex}
use Rattle.compact.proofs.CompactLaws.{order-in}
use Rattle.chain.specs.Chain.{ChainStart, Traced}
use Rattle.store.proofs.VertexLaws.{part-long}
use Rattle.memory.specs.Memory.{vertex_room}
use Rattle.merge_linear_chain.specs.Zip.{ChainWritable, ChainWritten}
use Rattle.merge_linear_chain.proofs.JoinLaws.{total-tab, last-of}
use Rattle.merge_linear_chain.proofs.WrittenLaws.{verts-written, within-written}
use Rattle.zip_linear_chains.specs.declared.Absorbed.{Absorbed}
use Rattle.zip_linear_chains.specs.Loops.{NodesAppended}
use Rattle.zip_linear_chains.specs.Absorb.{Absorbable, AbsorbedAt}

nil-cons : {X : Type 0} {y : ℕ} {ys : List ℕ} → ◌≡◌ {A = List ℕ} [] (y ∷ ys) → X
nil-cons {X} {y} {ys} e = absurd (omega (arith, bad))
  where
    bad : ◌≡◌ {A = ℕ} 0 1
    bad = cc

module _ {m n : ℕ} {es vs p heads nexts nodes rest froms : List ℕ} {t : Absorbed} {s : ℕ} (R : Absorbable m n es vs p heads nexts nodes rest froms t s) where
  abbrev g : Graph
  g = graph_in 0 n m es vs p

  in-pool : Within (length p) n vs
  in-pool = record { at = λ v b. omega (arith, R.within.at v b, R.at_high, R.p-room) }

  same : linear_chain g s ≡ [] → AbsorbedAt m n es vs p nodes froms t s t vs p nodes froms
  same e = record {
    none = λ _. record { same = refl; same-vs = refl; same-p = refl; same_nodes = refl; same-froms = refl };
    some =
        λ y ys f. nil-cons (sym e ∙ f);
  }

  pub absorb-no-start : {r : Bool} → ChainStart m n es s r → r ≡ false → AbsorbedAt m n es vs p nodes froms t s t vs p nodes froms
  absorb-no-start C e = same (chain-none g s (sym (C.is 0 vs p) ∙ e))

  module _ {r : Bool} (C : ChainStart m n es s r) (e : r ≡ true) {c : ℕ} {rest' : List ℕ} (T : Traced m n es s c rest') where
    chain-is : linear_chain g s ≡ nums_in c rest'
    chain-is =
        linear-yes g s (omega (arith, R.below, order-in 0 n m es vs p)) (sym (C.is 0 vs p) ∙ e)
        ∙ (ap (λ (x : ℕ). trace_linear_chain x g s) (order-in 0 n m es vs p) ∙ sym (T.is 0 vs p))

    pub absorb-none : c ≡ 0 → AbsorbedAt m n es vs p nodes froms t s t vs p nodes froms
    absorb-none z = same (chain-is ∙ (ap (λ (x : ℕ). nums_in x rest') z ∙ tab-zero (λ (i : ℕ). get_or rest' i 0)))

    module _ (o : c ≡ 0 → ⊥) (q : length rest' ≡ length rest) where
      pub some-c : 1 ≤ c
      some-c = by_order 1 c (λ b. b) (λ b. absurd (o (omega arith)))

      -- the chain as a list that is not empty
      by_chain : {X : Type 0} → ((y : ℕ) (ys : List ℕ) → nums_in c rest' ≡ y ∷ ys → linear_chain g s ≡ y ∷ ys → X) → X
      by_chain f = by_list (nums_in c rest') (λ z. absurd (omega (arith, some-c, ap length z, length-tab c (λ (i : ℕ). get_or rest' i 0))))
          (λ y ys z. f y ys z (chain-is ∙ z))

      fit-nums : t.at + length (concat (map (seq_in vs p) (s ∷ nums_in c rest'))) ≤ 2 * vertex_room heads
      fit-nums = by_chain (λ y ys z f. subst (λ (l : List ℕ). t.at + length (concat (map (seq_in vs p) (s ∷ l))) ≤ 2 * vertex_room heads)
          (sym z) (R.fits y ys f))

      pub fit-nodes : t.gone + c ≤ n
      fit-nodes = by_chain (λ y ys z f. omega (arith, R.nodes-fit y ys f, ap length z, length-tab c (λ (i : ℕ). get_or rest' i 0)))

      size_is : length (concat (map (seq_in vs p) (s ∷ nums_in c rest'))) ≡ get_or vs (2 * s + 1) 0 + nodes_length vs rest' c
      size_is = length-flat-map (seq_in vs p) (s ∷ nums_in c rest') ∙ sums
        where
          size : (v : ℕ) → v < n → length (seq_in vs p v) ≡ get_or vs (2 * v + 1) 0
          size v b = part-long p _ _ (in-pool.at v b)

          sums : total (λ (v : ℕ). length (seq_in vs p v)) (s ∷ nums_in c rest') ≡ get_or vs (2 * s + 1) 0 + nodes_length vs rest' c
          sums = unfold total in (λ i. size s R.below i + (total-tab c (λ (v : ℕ). length (seq_in vs p v)) (λ (j : ℕ). get_or rest' j 0)
              ∙ ap sum (tab-ext c (λ (j : ℕ). length (seq_in vs p (get_or rest' j 0))) (λ (j : ℕ). get_or vs (2 * get_or rest' j 0 + 1) 0) (λ j b.
              size (get_or rest' j 0) (T.below j b)))) i)

      pub absorb-writable : ChainWritable vs p t.at s rest' c
      absorb-writable = record {
        nodes-room = omega (arith, T.most, R.rest-room, q);
        start-room = omega (arith, R.below, R.vs-room);
        start-before = R.within.at s R.below;
        vs-room = λ i b. omega (arith, T.below i b, R.vs-room);
        before = λ i b. R.within.at (get_or rest' i 0) (T.below i b);
        room = omega (arith, fit-nums, size_is, R.p-room);
      }

      pub last-below : get_or rest' (c - 1) 0 < n
      last-below = T.below (c - 1) (omega (arith, some-c))

      module _ {end : ℕ} {p' : List ℕ} (W : ChainWritten vs p t.at s rest' c end p') where
        pub end_low : t.at ≤ end
        end_low = omega (arith, W.end)

        pub end-high : end ≤ 2 * vertex_room heads
        end-high = omega (arith, W.end, fit-nums, size_is)

        module _ (l : length p' ≡ length p) where
          at-pool : t.at ≤ length p
          at-pool = omega (arith, R.at_high, R.p-room)

          verts-absorbed : seqs_in n (put_vertex vs s t.at (end - t.at)) p' ≡ set (seqs_in n vs p) s (concat (map (seq_in vs p) (s ∷ nums_in c rest')))
          verts-absorbed = verts-written R.below R.vs-room R.within at-pool W l

          within-absorbed : Within end n (put_vertex vs s t.at (end - t.at))
          within-absorbed = within-written R.below R.vs-room R.within at-pool W

          pub absorb-done : {vs₁ nodes₁ froms₁ : List ℕ} {k g : ℕ} → vs₁ ≡ put_vertex vs s t.at (end - t.at)
              → NodesAppended t.gone k nodes rest' nodes₁ → froms₁ ≡ set froms (get_or rest' (c - 1) 0) s → k ≡ c → g ≡ t.gone + c
              → AbsorbedAt m n es vs p nodes froms t s record { at = end; gone = g; chains = t.chains + 1 } vs₁ p' nodes₁ froms₁
          absorb-done {vs₁} {nodes₁} {froms₁} put A led whole counted = record {
            none = λ e. absurd (omega (arith, some-c, ap length (sym chain-is ∙ e), length-tab c (λ (i : ℕ). get_or rest' i 0)));
            some = λ y ys f. let z : nums_in c rest' ≡ y ∷ ys = sym chain-is ∙ f in record {
              verts = ap (λ (x : List ℕ). seqs_in n x p') put ∙ (verts-absorbed
                  ∙ ap (λ (x : List ℕ). set (seqs_in n vs p) s (concat (map (seq_in vs p) (s ∷ x)))) z);
              within = subst (λ (x : List ℕ). Within end n x) (sym put) within-absorbed;
              at-is = omega (arith, W.end, size_is, ap (λ (x : List ℕ). length (concat (map (seq_in vs p) (s ∷ x)))) z);
              gone-is = ap (λ (x : ℕ). nums_in x nodes₁) counted ∙ (subst (λ (x : ℕ). NodesAppended t.gone x nodes rest' nodes₁) whole A).is
                  ∙ ap (λ (x : List ℕ). nums_in t.gone nodes ++ x) z;
              handed = led ∙ ap (λ (x : ℕ). set froms x s) (sym (last-of s c (λ (i : ℕ). get_or rest' i 0) some-c) ∙ ap (last_of s) z);
              chains-is = refl;
            };
          }
