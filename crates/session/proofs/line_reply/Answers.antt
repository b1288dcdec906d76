use Rattle.session.proofs.Ways.{other_word, format_word_lem, create_word_lem, append_word_lem, sync_word_lem, delete_word_lem, list_word_lem, rollover_told}
use Rattle.session.proofs.line_reply.Goals as goal

pub returns-in-Other : goal.returns-in-Other
returns-in-Other c =
    other_word c.args.volume.now c.args.rows.now c.args.line.now c.args.s.now c.parse.ensures c.in-Other.is

pub returns-in-Format : goal.returns-in-Format
returns-in-Format c =
    format_word_lem c.args.volume.now c.args.rows.now c.args.line.now c.args.s.now c.parse.ensures c.in-Format.is c.format_line.ensures

pub returns-in-Create : goal.returns-in-Create
returns-in-Create c =
    create_word_lem c.args.volume.now c.args.rows.now c.args.line.now c.args.s.now c.parse.ensures c.in-Create.is
    (rw (c.is_some.ensures, c.unwrap_or.ensures, rollover_told) at c.create_line.ensures)

pub returns-in-Append : goal.returns-in-Append
returns-in-Append c =
    append_word_lem c.args.volume.now c.args.rows.now c.args.line.now c.args.s.now c.parse.ensures c.in-Append.is c.append_line.ensures

pub returns-in-Sync : goal.returns-in-Sync
returns-in-Sync c =
    sync_word_lem c.args.volume.now c.args.rows.now c.args.line.now c.args.s.now c.parse.ensures c.in-Sync.is c.sync_line.ensures

pub returns-in-Delete : goal.returns-in-Delete
returns-in-Delete c =
    delete_word_lem c.args.volume.now c.args.rows.now c.args.line.now c.args.s.now c.parse.ensures c.in-Delete.is c.delete_line.ensures

pub returns-in-List : goal.returns-in-List
returns-in-List c =
    list_word_lem c.args.volume.now c.args.rows.now c.args.line.now c.args.s.now c.parse.ensures c.in-List.is c.list_line.ensures
