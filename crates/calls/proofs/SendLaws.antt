-- A record is written where it fits. Assumes nothing.
use mathlib.Core.Path.{◌≡◌, refl, sym, ap, ◌∙◌, subst}
use mathlib.Core.List.{List, ◌++◌}
use Prim.Native.Nat.{ℕ, ◌≤◌, ◌<◌}
use native.Mathlib.Omega.{arith}
use lib.ListN.{length, drop}
use Rattle.defs.specs.Calls.{Response, refused, accepted, number_of, length_of, written_of}
use Rattle.defs.specs.Forms.{Form}
use Rattle.defs.specs.Record.{whole_length, sequence_graph, encode}
use Rattle.form.proofs.FormLaws.{between}
use Rattle.memory.specs.Memory.{graph_of, vertex_room, Room, Holds}
use Rattle.memory.specs.declared.Held.{Held}
use Rattle.memory.proofs.RoomLaws.{held-vertices, held-edges, held-ends, fit-bytes}
use Rattle.pool.specs.Pool.{bytes_in}
use Rattle.std.specs.Prelude.{Result, Ok, Err}
use Rattle.write_record.specs.Written.{Measured, RecordWritable, RecordWritten}
use Rattle.calls.specs.Sending.{fits, Sendable, RoomFits, Responds, made_number, SendsGraph}
use Rattle.calls.proofs.ResponseLaws.{fits-short, fits-enough, respond-refused, respond-fits}
use Rattle.store.specs.Store.{Within}
use Rattle.write_record.proofs.WriteLaws.{bytes-are, encode-length}
use Rattle.calls.specs.declared.Answer.{Answer}

-- what is sent, by the response
pub responds-refused : {x : Response} {n : ℕ} → x ≡ refused n → {s : Answer} → s ≡ record { number = n; length = 0 } → {out out' : List ℕ}
    → out' ≡ out → Responds x out s out'
unfolding number_of length_of written_of
responds-refused e q {out} w = record {
  number = ap (λ (y : Answer). y.number) q ∙ sym (ap number_of e);
  size = ap (λ (y : Answer). y.length) q ∙ sym (ap length_of e);
  written = w ∙ sym (ap (λ (y : Response). written_of y out) e);
}

pub responds-accepted : {x : Response} (r : List ℕ) → x ≡ accepted r → {s : Answer} {n : ℕ} → n ≡ length r → s ≡ record { number = 0; length = n }
    → {out out' : List ℕ} → out' ≡ r ++ drop n out → Responds x out s out'
unfolding number_of length_of written_of
responds-accepted r e l q {out} w = record {
  number = ap (λ (y : Answer). y.number) q ∙ sym (ap number_of e);
  size = ap (λ (y : Answer). y.length) q ∙ l ∙ sym (ap length_of e);
  written = w ∙ ap (λ (i : ℕ). r ++ drop i out) l ∙ sym (ap (λ (y : Response). written_of y out) e);
}

pub responds-as : {x y : Response} → x ≡ y → {out out' : List ℕ} {s : Answer} → Responds y out s out' → Responds x out s out'
responds-as e {out} {out'} {s} R = subst (λ (z : Response). Responds z out s out') (sym e) R

-- a held graph whose counts fit the form
pub held-sendable : {f : Form} {h : Held} {es vs p heads nexts nodes mp : List ℕ} (status : ℕ) → status < 256 → RoomFits f heads nexts
    → Room es vs p heads nexts nodes mp → Holds h es vs p heads nexts → Sendable f status h es vs p
held-sendable {f} {h} {es} {vs} {p} {heads} {nexts} status s F R H = record {
  measured = measured;
  within = within;
  writable = λ out room. record {
    status-fits = s;
    n-fits = omega (arith, held-vertices H, F.vertices);
    m-fits = omega (arith, held-edges H, F.edges);
    lengths-fit = λ u b. omega (arith, H.within.at u b, H.used-room, F.vertices);
    ends = held-ends H;
    es-room = omega (arith, held-edges H, R.es-room);
    within = within;
    measured = measured;
    room = room;
  };
}
  where
    within : Within (length p) h.n vs
    within = record { at = λ u b. omega (arith, H.within.at u b, H.used-room, R.p-room) }

    few : bytes_in h.n vs ≤ vertex_room heads
    few = rw (bytes-are f status h.k.0 h.n h.m es vs p within) at (fit-bytes H.fit)

    measured : Measured f h vs
    measured = record {
      vs-room = omega (arith, held-vertices H, R.vs-room);
      small =
          let B = between f h.n h.m (bytes_in h.n vs) in
          omega (arith, held-vertices H, held-edges H, few, F.vertices-most, F.edges_most, B.whole_is, B.edges_most, B.bytes_most);
    }

module _ {f : Form} {status : ℕ} {h : Held} {es vs p : List ℕ} (S : Sendable f status h es vs p) (out : List ℕ) {size : ℕ}
    (q : size ≡ whole_length f h.n h.m (bytes_in h.n vs)) where
  abbrev result : List ℕ
  result = encode f sequence_graph status (graph_of h es vs p)

  long : length result ≡ size
  long = encode-length f status h.k.0 h.n h.m es vs p S.within ∙ sym q

  pub send-short : length out < size → {s : Answer} → s ≡ record { number = 11; length = 0 } → Responds (fits (length out) result) out s out
  send-short l a = responds-refused (fits-short (length out) result (omega (arith, long))) a refl

  pub send-writable : size ≤ length out → RecordWritable f status h es vs p out
  send-writable l = S.writable out (omega (arith, q))

  pub send-written : size ≤ length out → {r : ℕ} {out' : List ℕ} → RecordWritten f status h es vs p out r out'
      → Responds (fits (length out) result) out record { number = 0; length = r } out'
  send-written l W =
      responds-accepted result (fits-enough (length out) result (omega (arith, long))) W.long refl
      (W.is ∙ ap (λ (i : ℕ). result ++ drop i out) (sym W.long))

  pub send-small : {r : ℕ} {out' : List ℕ} → RecordWritten f status h es vs p out r out' → r < 4294967296
  send-small W = omega (arith, W.long, long, q, S.measured.small)

-- a number where a cause is present, else the record where it fits
number-sent : {r : Result Held ℕ} {n : ℕ} → r ≡ Err n → made_number r ≡ n
unfolding made_number
number-sent q = ap made_number q

number-none : {r : Result Held ℕ} {h : Held} → r ≡ Ok h → made_number r ≡ 0
unfolding made_number
number-none q = ap made_number q

module _ {r : Result Held ℕ} {es vs p : List ℕ} where
  pub sends-refused : {n : ℕ} → r ≡ Err n → {f : Form} {status : ℕ} {out : List ℕ} {s : Answer}
      → s ≡ record { number = n; length = 0 } → SendsGraph f status r es vs p out s out
  sends-refused {n} q {f} {status} {out} a = record {
    is = λ causes result M.
        responds-refused (respond-refused causes (length out) result n (sym M.number ∙ number-sent q) (M.refused n q)) a refl;
  }

  pub sends-graph : {h : Held} → r ≡ Ok h → {f : Form} {status : ℕ} {out : List ℕ} {s : Answer} {out' : List ℕ}
      → Responds (fits (length out) (encode f sequence_graph status (graph_of h es vs p))) out s out' → SendsGraph f status r es vs p out s out'
  sends-graph {h} ok {f} {status} {out} S = record {
    is = λ causes result M.
        responds-as (respond-fits causes (length out) result M.numbered (sym M.number ∙ number-none ok) ∙ ap (fits (length out)) (sym (M.is h ok))) S;
  }
