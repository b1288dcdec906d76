use Rattle.std.proofs.Common.{rules, arith, refl, ap, ◌∙◌}
use Rattle.names.specs.Names.{in_dir}
use Rattle.directory.specs.Rows.{rows_of}
use Rattle.directory.proofs.Scans.{scan_start, scan_end, at_refused, at_free, at_file}
use Rattle.directory.proofs.RowParts.{row_made_lem, row_skipped}
use Rattle.directory.proofs.list_rows.Goals as goal
use Rattle.directory.proofs.list_rows.Goals.{in_default, in-Some+then-in_dir, in-Some+else-in_dir}

pub loop-slot-init : goal.loop-slot-init
unfolding rows_of
loop-slot-init c = record { come = scan_start _ _ _ _ _; few = omega arith; size = refl }

pub returns-in-Err : goal.returns-in-Err
returns-in-Err c = at_refused c.loop-slot.invariant.come c.loop-slot-test.true c.slot_at.ensures.read c.in-Err.is refl

pub loop-slot-preserved : goal.loop-slot-preserved
loop-slot-preserved c =
    let l = c.loop-slot in
    let a = c.args in
    let read = c.slot_at.ensures.read in
    elim c.match-found.branch [
      | in_default w ↦ record {
        come = rw (w.rows-is, w.count-is) (at_free l.invariant.come c.loop-slot-test.true read c.in-Ok.is w.in_default.is refl);
        few = omega arith;
        size = search rules;
      }
      | in-Some+then-in_dir w ↦ record {
        come = rw (w.rows-is, w.count-is)
            (at_file l.invariant.come c.loop-slot-test.true read c.in-Ok.is w.in-Some.is
            (row_made_lem a.dir.now a.counts.now l.slot w.in-Some.file.id _ l.rows l.count (w.in_dir.ensures ∙ ap (in_dir a.dir.now) w.name_at-name.ensures.name)
            _ _ w.if-in_dir.true w.put_row.ensures w.name_at-name.ensures.name));
        few = omega arith;
        size = search rules;
      }
      | in-Some+else-in_dir w ↦ record {
        come = rw (w.rows-is, w.count-is)
            (at_file l.invariant.come c.loop-slot-test.true read c.in-Ok.is w.in-Some.is
            (row_skipped a.dir.now a.counts.now l.slot w.in-Some.file.id _ l.rows l.count (w.in_dir.ensures ∙ ap (in_dir a.dir.now) w.name_at-name.ensures.name) w.if-in_dir.false));
        few = omega arith;
        size = search rules;
      }
    ]

pub returns : goal.returns
returns c = scan_end c.loop-slot.invariant.come c.loop-slot-test.false
