use Rattle.std.proofs.Common.{◌∙◌, ap, Some, length}
use Rattle.hex.specs.Hex.{decode_sized}
use Rattle.zarrs_fill_values.specs.Words.{low_first_number}
use Rattle.zarrs_fill_values.proofs.HexWords.{digits_read, digits_refused}
use Rattle.zarrs_fill_values.proofs.floats.digits_word.Goals as goal

pub returns-in-Ok : goal.returns-in-Ok
returns-in-Ok c =
    record { value = ap Some (c.low_number.ensures.value ∙ ap low_first_number c.reverse.ensures.after) ∙ digits_read (decode_sized c.args.digits.now (length c.args.room.now)) c.decode_to_slice.result c.decode_to_slice.new.out c.decode_to_slice.ensures.value c.in-Ok.is }

pub returns-in-Err : goal.returns-in-Err
returns-in-Err c =
    record { value = digits_refused (decode_sized c.args.digits.now (length c.args.room.now)) c.decode_to_slice.result c.decode_to_slice.new.out c.in-Err.field-0 c.decode_to_slice.ensures.value c.in-Err.is }
