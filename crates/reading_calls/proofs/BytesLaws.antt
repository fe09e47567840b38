-- The bytes that are told are the call's response. Assumes nothing.
use mathlib.Core.Path.{◌≡◌, refl, ap, ◌∙◌, subst}
use mathlib.Core.Bool.{not}
use mathlib.Core.Option.{Option, none, some}
use mathlib.Core.List.{List, [], ◌∷◌, ◌++◌}
use Prim.Native.Nat.{ℕ, ◌≤◌, ◌<◌}
use native.Mathlib.Omega.{arith}
use lib.ListN.{length}
use Rattle.defs.specs.Lists.{given}
use Rattle.defs.specs.SeqGraph.{Graph}
use Rattle.defs.specs.Simplify.{sequence_bytes}
use Rattle.defs.specs.Paths.{is_path_of, path_bases_bytes, reference_path_bytes}
use Rattle.defs.specs.Record.{decode}
use Rattle.defs.specs.Refusals.{Cause, sequence_only, record_causes, record_refusal}
use Rattle.defs.specs.Calls.{Response, refused, is_nothing, bytes_or_none, reference_cause, reference_bytes, path_cause, path_bytes}
use Rattle.laws.proofs.Walks.{by_test}
use Rattle.laws.proofs.ListLaws.{given-some, by_order, given_yes}
use Rattle.laws.proofs.Whole.{no-some}
use Rattle.memory.specs.Memory.{graph_of}
use Rattle.memory.specs.declared.Held.{Held}
use Rattle.spell.specs.Spell.{Told}
use Rattle.std.specs.Prelude.{Some, None}
use Rattle.std.specs.Prelude as std
use Rattle.spell.proofs.SpellLaws.{none_told, some-told}
use Rattle.calls.specs.Sending.{fits, Responds}
use Rattle.calls.specs.declared.Answer.{Answer}
use Rattle.calls.proofs.CauseLaws.{behind-numbered, behind-refused, behind-present, behind-absent}
use Rattle.calls.proofs.SendLaws.{responds-refused, responds-accepted}
use Rattle.calls.proofs.ResponseLaws.{fits-short, fits-enough, respond-refused, respond-fits}
use Rattle.reading_calls.specs.Reading.{reference_response, path_response, Tells, Tellable, GraphAnswered}
use Rattle.reading_calls.proofs.LengthLaws.{path-most, reference-most}

-- ---- what is sent, by what is told

by_bytes : {A : Type 0} (b : std.Option ℕ) → ((n : ℕ) → b ≡ Some n → A) → (b ≡ None → A) → A
by_bytes (Some n) f g = f n refl
by_bytes None f g = g refl

some_or_none : {A : Type 0} {b : std.Option ℕ} {n : ℕ} → b ≡ None → b ≡ Some n → A
some_or_none p q = absurd (let z : ◌≡◌ {A = ℕ} 0 1 = cc in omega arith)

module _ {b : std.Option ℕ} {room missing : ℕ} {s : Answer} where
  pub tell_none : b ≡ None → s ≡ record { number = missing; length = 0 } → Tells b room missing s
  tell_none f q = record { none = λ _. q; short = λ n e. some_or_none f e; whole = λ n e. some_or_none f e }

  pub tell-short : {k : ℕ} → b ≡ Some k → room < k → s ≡ record { number = 11; length = 0 } → Tells b room missing s
  tell-short {k} f l q = record {
    none = λ e. some_or_none e f;
    short = λ _ _ _. q;
    whole = λ n e h. absurd (let z : n ≡ k = cc in omega arith);
  }

  pub tell-whole : {k : ℕ} → b ≡ Some k → k ≤ room → s ≡ record { number = 0; length = k } → Tells b room missing s
  tell-whole {k} f l q = record {
    none = λ e. some_or_none e f;
    short = λ n e h. absurd (let z : n ≡ k = cc in omega arith);
    whole = λ n e _. let z : k ≡ n = cc in subst (λ (x : ℕ). s ≡ record { number = 0; length = x }) z q;
  }

-- a call that tells o, or the number n where there is none
module _ {o : Option (List ℕ)} {out out' : List ℕ} {b : std.Option ℕ} (T : Told o out b out') {x : Response} {n : ℕ} (none_is : o ≡ none → x
    ≡ refused n) (some_is : (r : List ℕ) → o ≡ some r → x ≡ fits (length out) r)
    {s : Answer} (e : length out' ≡ length out) (A : Tells b (length out') n s) where
  whole : (k : ℕ) → b ≡ Some k → Responds x out s out'
  whole k f = let y = some-told T f in by_order k (length out')
      (λ l. responds-accepted y.0 (some_is y.0 y.1 ∙ fits-enough (length out) y.0 (omega (arith, e, y.2.size))) y.2.size
      (A.whole k f l) (y.2.is (omega (arith, e))))
      (λ l. responds-refused (some_is y.0 y.1 ∙ fits-short (length out) y.0 (omega (arith, e, y.2.size))) (A.short k f l)
      (y.2.kept (omega (arith, e))))

  tells : Responds x out s out'
  tells = by_bytes b whole (λ f. let y = none_told T f in responds-refused (none_is y.0) (A.none f) y.1)

-- ---- the responses

module _ (bs : List ℕ) (room : ℕ) where
  -- 1 to 7, 10
  abbrev reference_causes : List Cause
  reference_causes = record_causes sequence_only bs ++ (reference_cause bs ∷ [])

  pub reference-refused : {n : ℕ} → record_refusal sequence_only bs ≡ n → (n ≡ 0 → ⊥) → reference_response bs room ≡ refused n
  unfolding reference_response
  reference-refused {n} e o = respond-refused reference_causes room (reference_bytes bs) n (behind-refused sequence_only bs 10 _ e o) o

  module _ (z : record_refusal sequence_only bs ≡ 0) where
    pub reference-none : reference_path_bytes (decode bs) ≡ none → reference_response bs room ≡ refused 10
    unfolding reference_response is_nothing
    reference-none e = respond-refused reference_causes room (reference_bytes bs) 10 (behind-present sequence_only bs 10 _ z (ap is_nothing e)) (λ q. omega arith)

    pub reference-some : (s : List ℕ) → reference_path_bytes (decode bs) ≡ some s → reference_response bs room ≡ fits room s
    unfolding reference_response is_nothing bytes_or_none
    reference-some s e =
        respond-fits reference_causes room (reference_bytes bs) (behind-numbered sequence_only bs 10 _ (omega arith))
        (behind-absent sequence_only bs 10 _ z (ap is_nothing e))
        ∙ ap (λ (p : Option (List ℕ)). fits room (bytes_or_none p)) e

module _ (bs : List ℕ) (start : ℕ) (list : List ℕ) (room : ℕ) where
  abbrev told : Option (List ℕ)
  told = given (is_path_of (decode bs) start list) (path_bytes bs start list)

  -- 1 to 7, 9
  abbrev path_causes : List Cause
  path_causes = record_causes sequence_only bs ++ (path_cause bs start list ∷ [])

  pub path-refused : {n : ℕ} → record_refusal sequence_only bs ≡ n → (n ≡ 0 → ⊥) → path_response start list bs room ≡ refused n
  unfolding path_response
  path-refused {n} e o = respond-refused path_causes room _ n (behind-refused sequence_only bs 9 _ e o) o

  module _ (z : record_refusal sequence_only bs ≡ 0) where
    pub path-none : told ≡ none → path_response start list bs room ≡ refused 9
    unfolding path_response
    path-none e = by_test (is_path_of (decode bs) start list)
        (λ t. no-some e (given_yes _ (path_bytes bs start list) t))
        (λ t. respond-refused path_causes room _ 9 (behind-present sequence_only bs 9 _ z (ap not t)) (λ q. omega arith))

    pub path-some : (s : List ℕ) → told ≡ some s → path_response start list bs room ≡ fits room s
    unfolding path_response
    path-some s e =
        let y = given-some (is_path_of (decode bs) start list) (path_bytes bs start list) s e in
        respond-fits path_causes room _ (behind-numbered sequence_only bs 9 _ (omega arith)) (behind-absent sequence_only bs 9 _ z (ap not y.0))
        ∙ ap (fits room) y.1

-- ---- the two calls

module _ {h : Held} {es vs p : List ℕ} where
  -- what is told can be counted in 32 bits
  module _ {heads nexts nodes : List ℕ} (Q : Tellable h es vs p heads nexts nodes) where
    most : {o : Option (List ℕ)} → ((s : List ℕ) → o ≡ some s → length s ≤ sequence_bytes (graph_of h es vs p).verts)
        → {out out' : List ℕ} {b : std.Option ℕ} → Told o out b out' → (n : ℕ) → b ≡ Some n → n < 4294967296
    most f T n e = let y = some-told T e in omega (arith, y.2.size, f y.0 y.1, Q.few)

    pub reference-counted : {out out' : List ℕ} {b : std.Option ℕ} → Told (reference_path_bytes (graph_of h es vs p)) out b out' → (n : ℕ)
        → b ≡ Some n → n < 4294967296
    reference-counted T = most (reference-most (graph_of h es vs p) Q.spellable.sound) T

    pub path-counted : (start : ℕ) (list : List ℕ) {out out' : List ℕ} {b : std.Option ℕ}
        → Told (given (is_path_of (graph_of h es vs p) start list) (path_bases_bytes (graph_of h es vs p) start list)) out b out'
        → (n : ℕ) → b ≡ Some n → n < 4294967296
    path-counted start list T =
        let g = graph_of h es vs p in
        most (λ s e. let y = given-some (is_path_of g start list) (path_bases_bytes g start list) s e in
        omega (arith, ap length y.1, path-most g Q.spellable.sound start list y.0)) T

  pub reference-answered : {out out' : List ℕ} {b : std.Option ℕ} {s : Answer} → Told (reference_path_bytes (graph_of h es vs p)) out b out'
      → length out' ≡ length out → Tells b (length out') 10 s → GraphAnswered reference_response h es vs p out s out'
  reference-answered {out} {out'} {b} T l S = record {
    is = λ bs _ z e. tells (subst (λ (g : Graph). Told (reference_path_bytes g) out b out') e T) (reference-none bs (length out) z)
        (reference-some bs (length out) z) l S;
  }

  pub path-answered : (start : ℕ) (list : List ℕ) {out out' : List ℕ} {b : std.Option ℕ} {s : Answer}
      → Told (given (is_path_of (graph_of h es vs p) start list) (path_bases_bytes (graph_of h es vs p) start list)) out b out'
      → length out' ≡ length out → Tells b (length out') 9 s → GraphAnswered (path_response start list) h es vs p out s out'
  path-answered start list {out} {out'} {b} T l S = record {
    is = λ bs _ z e. tells (subst (λ (g : Graph). Told (given (is_path_of g start list) (path_bases_bytes g start list)) out b out') e T)
        (path-none bs start list (length out) z) (path-some bs start list (length out) z) l S;
  }
