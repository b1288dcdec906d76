use Rattle.std.specs.Prelude.{Ok}
use mathlib.Core.Path.{◌≡◌, ap, ◌∙◌}
use mathlib.Core.Bool.{true}
use mathlib.Core.List.{List}
use Prim.Native.Nat.{ℕ}
use Rattle.medium.specs.declared.Medium.{Medium}
use Rattle.handles.specs.declared.Store.{Store}
use Rattle.reader.specs.declared.Reader.{Reader}
use Rattle.reader.specs.declared.Arrived.{Arrived}
use Rattle.reader.specs.Reader.{reader_ok}
use Rattle.reader.specs.Next.{arrive_of}
use Rattle.std.proofs.Common.{rules}
use Rattle.handles.proofs.Laws.{store_facts}
use Rattle.reader.proofs.Facts.{reader_facts, reader_ok_lem}
use Rattle.reader.proofs.Moves.{Arrives, arrive_reads}
use Rattle.reader.proofs.Reader.advance.Goals as goal

came : (vol : List ℕ) (m : Medium) (st : Store) (rd : Reader) {a : Arrived} → reader_ok rd st ≡ true → a ≡ arrive_of vol m st rd → Arrives st a
came vol m st rd r e = rw e (arrive_reads vol m st rd (reader_facts rd st r))

pub is_given-requires : goal.is_given-requires
is_given-requires c = ((store_facts _ _ c.requires.0).head.size_most, c.requires.1)

pub arrive-more-requires : goal.arrive-more-requires
arrive-more-requires c =
    let h = store_facts _ _ c.requires.0 in
    (h.enough, h.head.chunks_most)

pub is_given-given-requires : goal.is_given-given-requires
is_given-given-requires c =
    let a = c.args in
    let r = came a.volume.now a.medium a.store a.self c.requires.1 c.arrive-more.ensures in
    ((store_facts _ _ c.requires.0).head.size_most, reader_ok_lem _ _ r.reads)

pub take-taken-requires : goal.take-taken-requires
take-taken-requires c =
    let a = c.args in
    let r = came a.volume.now a.medium a.store a.self c.requires.1 c.arrive-more.ensures in
    (c.requires.0, reader_ok_lem _ _ r.reads, r.below (c.in-Ok.is ∙ ap Ok c.if-more.true), c.requires.2)

pub cut-requires : goal.cut-requires
cut-requires c =
    let a = c.args in
    let r = came a.volume.now a.medium a.store a.self c.requires.1 c.arrive-more.ensures in
    ((store_facts _ _ c.requires.0).head.size_most, reader_ok_lem _ _ r.reads, search rules)
