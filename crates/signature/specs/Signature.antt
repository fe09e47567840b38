-- Writing a signature over the previous one. Assumes nothing.
use Rattle.std.specs.Prelude.{◌≡◌, Bool, true, ◌&&◌, List, [], ◌∷◌, ◌++◌, map, ℕ, suc, ◌+◌, ◌*◌, ◌≤◌, ◌<◌, length, get_or, eqb, ltb}
use Rattle.defs.specs.Lists.{bit, concat, same_list, tab}
use Rattle.defs.specs.SeqGraph.{Edge, Graph, node_count}
use Rattle.store.specs.Store.{edge_in, nums_in, seq_in, Within}
use Rattle.memory.specs.Memory.{graph_of}
use Rattle.memory.specs.declared.Held.{Held}
use Rattle.signature.specs.declared.Signed.{Signed}

-- The signature as it is stored to be compared with the next: three numbers for each edge, the flag beside the end that the edge enters.
abbrev pub stored_vertex : List ℕ → List ℕ
stored_vertex v = length v ∷ v

abbrev pub stored_edge : Edge → List ℕ
stored_edge e = e.from ∷ (2 * e.to + bit e.is_ref) ∷ e.support ∷ []

abbrev pub stored_signature : Graph → List ℕ
stored_signature g = node_count g ∷ length g.edges ∷ concat (map stored_vertex g.verts) ++ concat (map stored_edge g.edges)

-- what is stored of the first n vertices, and of the first m edges, of the slices
abbrev pub stored_vertices : ℕ → List ℕ → List ℕ → List ℕ
stored_vertices n vs p = concat (tab n (λ (v : ℕ). stored_vertex (seq_in vs p v)))

abbrev pub stored_edges : ℕ → List ℕ → List ℕ
stored_edges m es = concat (tab m (λ (i : ℕ). stored_edge (edge_in es i)))

-- whether x is number `at` of the first `old`
abbrev pub same_at : List ℕ → ℕ → ℕ → ℕ → Bool
same_at l old at x = ltb at old && eqb (get_or l at 0) x

-- the numbers of xs stand behind what was written; `same` says whether they stood there before, too
abbrev pub same_from : List ℕ → ℕ → ℕ → List ℕ → Bool
same_from l old at [] = true
same_from l old at (x ∷ xs) = same_at l old at x && same_from l old (suc at) xs

-- xs written from s.at on over l
pub record WrittenOver (l : List ℕ) (old : ℕ) (s : Signed) (xs : List ℕ) (r : Signed) (l' : List ℕ) : Type 0 where
  pub at : r.at ≡ s.at + length xs
  pub same : r.same ≡ s.same && same_from l old s.at xs
  pub is : (i : ℕ) → i < length xs → get_or l' (s.at + i) 0 ≡ get_or xs i 0
  pub before : (k : ℕ) → k < s.at → get_or l' k 0 ≡ get_or l k 0
  pub behind : (k : ℕ) → s.at + length xs ≤ k → get_or l' k 0 ≡ get_or l k 0

-- there is room for so many numbers behind what was written
pub record Writable (l : List ℕ) (old : ℕ) (s : Signed) (count : ℕ) : Type 0 where
  pub old-room : old ≤ length l
  pub room : s.at + count ≤ length l

-- n vertices with their sequences in the pool
pub record Pooled (n : ℕ) (vs p : List ℕ) : Type 0 where
  pub small : n < 4294967296
  pub vs-room : 2 * n ≤ length vs
  pub within : Within (length p) n vs

-- m edges, and the end that each enters fits one number together with its flag
pub record EndsFit (m : ℕ) (es : List ℕ) : Type 0 where
  pub es-room : 4 * m ≤ length es
  pub small : (i : ℕ) → i < m → 2 * get_or es (4 * i + 1) 0 + 1 < 4294967296

-- the graph is in the slices, and there is room for its signature
pub record SignatureWritable (sig : List ℕ) (old : ℕ) (h : Held) (es vs p : List ℕ) : Type 0 where
  pub vertices : Pooled h.n vs p
  pub edges : EndsFit h.m es
  pub small-m : h.m < 4294967296
  pub room : Writable sig old record { at = 0; same = true } (length (stored_signature (graph_of h es vs p)))

-- the first numbers are the signature of the graph; `same` says whether the previous ones were
pub record Signature (sig : List ℕ) (old : ℕ) (h : Held) (es vs p : List ℕ) (r : Signed) (sig' : List ℕ) : Type 0 where
  pub room : r.at ≤ length sig
  pub is : nums_in r.at sig' ≡ stored_signature (graph_of h es vs p)
  pub same : r.same ≡ same_list (nums_in old sig) (stored_signature (graph_of h es vs p))
