use mathlib.Core.Path.{sym, ◌∙◌}
use native.Mathlib.Omega.{arith}
use lib.ListN.{replicate}
use Rattle.handles.specs.declared.Header.{Header}
use Rattle.header.specs.Header.{magic, head_of}
use Rattle.header.proofs.Ways.{Read, absent, damaged, insane, most, wrong, found}
use Rattle.header.proofs.codec.decode.Goals as goal

pub returns-then-not-starts_with : goal.returns-then-not-starts_with
unfolding magic
returns-then-not-starts_with c =
    let a = c.args in
    absent a.sector.now a.sectors c.starts_with.ensures c.if-not-starts_with.true c.bare.ensures

pub returns-then-not-is_sealed : goal.returns-then-not-is_sealed
unfolding magic
returns-then-not-is_sealed c =
    let a = c.args in
    damaged a.sector.now a.sectors c.starts_with.ensures c.if-not-starts_with.false c.is_sealed.ensures
    c.if-not-is_sealed.true c.bare-then-not-is_sealed.ensures

pub returns-then-not-sane : goal.returns-then-not-sane
unfolding magic head_of
returns-then-not-sane c =
    let head : Header = record {
      id = c.get_u64.result;
      generation = c.get_u64-2.result;
      next_id = c.get_u32.result;
      cursor = c.get_u32-2.result;
      chunks = c.get_u32-3.result;
      chunk = c.get_u32-4.result;
      crcs = replicate 24 0;
    } in
    let read : let args = c.args in
    Read args.sector.now args.sectors head c.sane.result = record {
      marked = sym c.starts_with.ensures ∙ c.if-not-starts_with.false;
      sealed = sym c.is_sealed.ensures ∙ c.if-not-is_sealed.false;
      same = rw (
        c.get_u64.ensures,
        c.get_u64-2.ensures,
        c.get_u32.ensures,
        c.get_u32-2.ensures,
        c.get_u32-3.ensures,
        c.get_u32-4.ensures,
      );
      sane = c.sane.ensures;
    } in
    insane read c.if-not-sane.true c.bare-then-not-sane.ensures

pub fixed_ok-requires : goal.fixed_ok-requires
unfolding magic head_of
fixed_ok-requires c =
    let head : Header = record {
      id = c.get_u64.result;
      generation = c.get_u64-2.result;
      next_id = c.get_u32.result;
      cursor = c.get_u32-2.result;
      chunks = c.get_u32-3.result;
      chunk = c.get_u32-4.result;
      crcs = replicate 24 0;
    } in
    let read : let args = c.args in
    Read args.sector.now args.sectors head c.sane.result = record {
      marked = sym c.starts_with.ensures ∙ c.if-not-starts_with.false;
      sealed = sym c.is_sealed.ensures ∙ c.if-not-is_sealed.false;
      same = rw (
        c.get_u64.ensures,
        c.get_u64-2.ensures,
        c.get_u32.ensures,
        c.get_u32-2.ensures,
        c.get_u32-3.ensures,
        c.get_u32-4.ensures,
      );
      sane = c.sane.ensures;
    } in
    (omega arith, most read c.if-not-sane.false)

pub returns-then-not-fixed_ok : goal.returns-then-not-fixed_ok
unfolding magic head_of
returns-then-not-fixed_ok c =
    let head : Header = record {
      id = c.get_u64.result;
      generation = c.get_u64-2.result;
      next_id = c.get_u32.result;
      cursor = c.get_u32-2.result;
      chunks = c.get_u32-3.result;
      chunk = c.get_u32-4.result;
      crcs = replicate 24 0;
    } in
    let read : let args = c.args in
    Read args.sector.now args.sectors head c.sane.result = record {
      marked = sym c.starts_with.ensures ∙ c.if-not-starts_with.false;
      sealed = sym c.is_sealed.ensures ∙ c.if-not-is_sealed.false;
      same = rw (
        c.get_u64.ensures,
        c.get_u64-2.ensures,
        c.get_u32.ensures,
        c.get_u32-2.ensures,
        c.get_u32-3.ensures,
        c.get_u32-4.ensures,
      );
      sane = c.sane.ensures;
    } in
    wrong read c.if-not-sane.false c.fixed_ok.ensures c.if-not-fixed_ok.true
    c.bare-then-not-fixed_ok.ensures

pub crcs_at-crcs-requires : goal.crcs_at-crcs-requires
unfolding magic head_of
crcs_at-crcs-requires c =
    let head : Header = record {
      id = c.get_u64.result;
      generation = c.get_u64-2.result;
      next_id = c.get_u32.result;
      cursor = c.get_u32-2.result;
      chunks = c.get_u32-3.result;
      chunk = c.get_u32-4.result;
      crcs = replicate 24 0;
    } in
    let read : let args = c.args in
    Read args.sector.now args.sectors head c.sane.result = record {
      marked = sym c.starts_with.ensures ∙ c.if-not-starts_with.false;
      sealed = sym c.is_sealed.ensures ∙ c.if-not-is_sealed.false;
      same = rw (
        c.get_u64.ensures,
        c.get_u64-2.ensures,
        c.get_u32.ensures,
        c.get_u32-2.ensures,
        c.get_u32-3.ensures,
        c.get_u32-4.ensures,
      );
      sane = c.sane.ensures;
    } in
    let h = (most read c.if-not-sane.false) in
    (omega arith, omega (arith, h, c.body.ensures))

pub returns : goal.returns
unfolding magic head_of
returns c =
    let head : Header = record {
      id = c.get_u64.result;
      generation = c.get_u64-2.result;
      next_id = c.get_u32.result;
      cursor = c.get_u32-2.result;
      chunks = c.get_u32-3.result;
      chunk = c.get_u32-4.result;
      crcs = replicate 24 0;
    } in
    let read : let args = c.args in
    Read args.sector.now args.sectors head c.sane.result = record {
      marked = sym c.starts_with.ensures ∙ c.if-not-starts_with.false;
      sealed = sym c.is_sealed.ensures ∙ c.if-not-is_sealed.false;
      same = rw (
        c.get_u64.ensures,
        c.get_u64-2.ensures,
        c.get_u32.ensures,
        c.get_u32-2.ensures,
        c.get_u32-3.ensures,
        c.get_u32-4.ensures,
      );
      sane = c.sane.ensures;
    } in
    found read c.if-not-sane.false c.fixed_ok.ensures
    c.if-not-fixed_ok.false c.body.ensures c.crcs_at-crcs.ensures
