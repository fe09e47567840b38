-- `show::put_in` meets its contract.
use native.Mathlib.Omega.{arith}
use Rattle.show.proofs.ShowLaws.{
  recorded-long,
  recorded-size,
  recorded-loadable,
  recorded-countable,
  recorded-head,
  recorded-printable,
  recorded-put,
}
use Rattle.show.proofs.put_in.Goals as goal

pub kmer_size_of-requires : goal.kmer_size_of-requires
kmer_size_of-requires g c = recorded-long c.requires.0

pub returns-in_default : goal.returns-in_default
returns-in_default g c =
    recorded-size c.requires.0 c.kmer_size_of.ensures c.in_default.is

pub load_graph-held-requires : goal.load_graph-held-requires
load_graph-held-requires g c =
    recorded-loadable
    c.requires.0
    c.requires.1.1.0
    (record { es-is = omega arith; vs-is = omega arith })
    c.kmer_size_of.ensures
    c.in-Some.is

pub sequence_bytes-b-requires : goal.sequence_bytes-b-requires
sequence_bytes-b-requires g c =
    recorded-countable
    c.requires.0
    c.load_graph-held.ensures
    {es = c.as_flattened_mut-es.result.now}
    {vs = c.as_flattened_mut-vs.result.now}
    c.requires.1.1.0
    (record { es-is = omega arith; vs-is = omega arith })
    c.load_graph-held.auto.vs

pub put_head-to-requires : goal.put_head-to-requires
put_head-to-requires g c =
    recorded-head
    c.requires.0
    c.load_graph-held.ensures
    c.sequence_bytes-b.ensures
    c.requires.1.0

pub put_lines-requires : goal.put_lines-requires
put_lines-requires g c = (
  recorded-printable c.requires.0 c.load_graph-held.ensures {es = c.as_flattened_mut-es.result.now}
      {vs = c.as_flattened_mut-vs.result.now} c.requires.1.1.0 (record { es-is = omega arith; vs-is = omega arith })
      (omega (arith, c.requires.1.0, c.put_head-to.auto.text)) c.load_graph-held.auto.es
      c.load_graph-held.auto.vs,
  omega (arith, c.put_head-to.ensures.size, c.put_head-to.ensures.end),
)

pub returns : goal.returns
returns g c =
    recorded-put
    c.requires.0
    c.load_graph-held.ensures
    c.sequence_bytes-b.ensures
    c.put_head-to.ensures
    c.put_lines.ensures
