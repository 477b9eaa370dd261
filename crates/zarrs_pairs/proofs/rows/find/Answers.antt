use Rattle.std.proofs.Common.{rules, sym}
use Rattle.std.proofs.lemmas.List.Sorted.{answers_always}
use Rattle.zarrs_pairs.specs.Lawful.{member_is_found, none_beside}
use Rattle.zarrs_pairs.specs.Rows.{rows_seen}
use Rattle.zarrs_pairs.proofs.SortedRows.{search_found, search_lacking}
use Rattle.zarrs_pairs.proofs.rows.find.Goals as goal

-- the row that the search ends at has the key
pub returns-in-Ok : goal.returns-in-Ok
returns-in-Ok c =
    let rows = c.args.rows.now in
    let key = c.args.key.now in
    let equal = c.in-Ok.ensures.position (λ row. row.key) (answers_always _ _ _ (λ f a r g called. search rules)) in
    record { value = sym (member_is_found (rows_seen rows) c.requires.one key _ (search_found rows key c.in-Ok.place _ c.in-Ok.ensures.bound (equal _))) }

-- no row has it
pub returns-in-Err : goal.returns-in-Err
returns-in-Err c =
    let rows = c.args.rows.now in
    let key = c.args.key.now in
    let parted = c.in-Err.ensures.position (λ row. row.key) (answers_always _ _ _ (λ f a r g called. search rules)) in
    record { value = sym (none_beside (rows_seen rows) key (search_lacking rows key c.in-Err.field-0 c.requires.rising parted)) }
