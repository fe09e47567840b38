-- `write_record::write_record` meets its contract.
use native.Mathlib.Omega.{arith}
use mathlib.Core.Path.{refl}
use Rattle.form.specs.Coded.{form_is, word_limit}
use Rattle.form.proofs.FormLaws.{between}
use Rattle.compact.proofs.CompactLaws.{ends-weaker}
use Rattle.pool.specs.Pool.{bytes_in}
use Rattle.write_record.proofs.WriteLaws.{written}
use borrow.Author.Rules.{rules}
use Rattle.write_record.proofs.write_record.Goals as goal

pub sequence_bytes-b-requires : goal.sequence_bytes-b-requires
sequence_bytes-b-requires c = (
  c.requires.measured.vs-room,
  omega (
    arith,
    c.requires.measured.small,
    between (form_is c.args.form) c.args.held.n c.args.held.m
        (bytes_in c.args.held.n c.args.vs.now),
  ),
)

pub put_header-requires : goal.put_header-requires
put_header-requires c = (
  omega (
    arith,
    c.requires.room,
    between (form_is c.args.form) c.args.held.n c.args.held.m
        (bytes_in c.args.held.n c.args.vs.now),
  ),
  (
    c.requires.status-fits,
    record {
      n-fits = c.requires.n-fits;
      m-fits = c.requires.m-fits;
      whole-fits = omega (
        arith,
        c.requires.measured.small,
        c.sequence_bytes-b.ensures,
        between (form_is c.args.form) c.args.held.n c.args.held.m
            (bytes_in c.args.held.n c.args.vs.now),
        between (form_is c.args.form) c.args.held.n c.args.held.m
            c.sequence_bytes-b.result,
      );
    },
  ),
)

pub put_lengths-requires : goal.put_lengths-requires
put_lengths-requires c =
    record {
      vs-room = c.requires.measured.vs-room;
      few = omega (
        arith,
        c.requires.measured.small,
        between (form_is c.args.form) c.args.held.n c.args.held.m
            (bytes_in c.args.held.n c.args.vs.now),
      );
      room = omega (
        arith,
        c.requires.room,
        c.put_header.auto.out,
        between (form_is c.args.form) c.args.held.n c.args.held.m
            (bytes_in c.args.held.n c.args.vs.now),
      );
      fits = c.requires.lengths-fit;
    }

pub put_edges-requires : goal.put_edges-requires
put_edges-requires c =
    record {
      es-room = c.requires.es-room;
      few = omega (
        arith,
        c.requires.measured.small,
        between (form_is c.args.form) c.args.held.n c.args.held.m
            (bytes_in c.args.held.n c.args.vs.now),
      );
      few-edges = omega (
        arith,
        c.requires.measured.small,
        between (form_is c.args.form) c.args.held.n c.args.held.m
            (bytes_in c.args.held.n c.args.vs.now),
      );
      room = omega (
        arith,
        c.requires.room,
        c.put_header.auto.out,
        c.put_lengths.auto.out,
        between (form_is c.args.form) c.args.held.n c.args.held.m
            (bytes_in c.args.held.n c.args.vs.now),
      );
      fits = ends-weaker (word_limit (form_is c.args.form)) (omega (arith, c.requires.n-fits)) c.requires.ends;
    }

pub bytes_at-bytes-requires : goal.bytes_at-bytes-requires
bytes_at-bytes-requires c = (
  omega (
    arith,
    c.requires.measured.small,
    between (form_is c.args.form) c.args.held.n c.args.held.m
        (bytes_in c.args.held.n c.args.vs.now),
  ),
  omega (
    arith,
    c.requires.measured.small,
    between (form_is c.args.form) c.args.held.n c.args.held.m
        (bytes_in c.args.held.n c.args.vs.now),
  ),
)

pub put_sequences-requires : goal.put_sequences-requires
put_sequences-requires c =
    record {
      vs-room = c.requires.measured.vs-room;
      within = c.requires.within;
      room = omega (
        arith,
        c.requires.room,
        c.put_header.auto.out,
        c.put_lengths.auto.out,
        c.put_edges.auto.out,
        c.bytes_at-bytes.ensures,
        between (form_is c.args.form) c.args.held.n c.args.held.m
            (bytes_in c.args.held.n c.args.vs.now),
      );
    }

pub overflow_add-result : goal.overflow_add-result
overflow_add-result c =
    omega (
      arith,
      c.requires.measured.small,
      c.bytes_at-bytes.ensures,
      c.sequence_bytes-b.ensures,
      between (form_is c.args.form) c.args.held.n c.args.held.m
          (bytes_in c.args.held.n c.args.vs.now),
    )

pub returns : goal.returns
returns c =
    written
    c.requires
    c.sequence_bytes-b.ensures
    c.bytes_at-bytes.ensures refl
    c.put_header.ensures
    c.put_lengths.ensures
    c.put_edges.ensures
    c.put_sequences.ensures
