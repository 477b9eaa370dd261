-- A place may go to another thread: where something is kept it owns what a box of that does, and else its fields alone.
use Rattle.std.specs.Prelude.{Option, Some, None, List}
use base.Shift.{Keyless}
use denote.Builtin.{RawPtr}
use denote.Param.Send.{IsSend, sendable, struct_send}
use denote.RawPtr.{Ptr}
use denote.Struct.Owning.{shape, to}
use mir.Val.{Val}
use Rattle.std.specs.declared.alloc.Global.{Global}
use Rattle.std.proofs.Crossing.{Box-send, crosses}
use Rattle.std.proofs.alloc.Global.TheSendSync.{the_field_send}
use Rattle.zarrs_data_type.proofs.data_type.DataType.TheLaws.TheKnot as types
use Rattle.zarrs_chain.proofs.array_to_bytes_codec.ArrayToBytesCodec.TheLaws.TheKnot as chains
use Rattle.zarrs_kept_chains.specs.contracts.kept.Kept as Kept
use Rattle.zarrs_kept_chains.specs.contracts.place.Place.{the_row, the_type}
use Rattle.zarrs_kept_chains.specs.declared.kept.Kept.{Kept as KeptValue}

address_send : IsSend RawPtr
address_send = search sendable

kept_send : IsSend Kept.the_row
kept_send = search (crosses, types.crosses, chains.crosses, sendable) depth 60 fits 20000

owned : (at : Ptr) (alloc : Global) (kept : Option KeptValue) (words : List Val)
    → Keyless (the_row.own_val (record { at = at; alloc = alloc; kept = kept }) words)
owned at alloc None words =
    let place = to the_type (record { at = at; alloc = alloc; kept = None }) in
    ((struct_send (shape the_type) (address_send, (the_field_send, tt))).owned place words, tt)
owned at alloc (Some value) words = (Box-send Kept.the_row kept_send).owned (record { ptr = at; alloc = alloc; value = value }) words

pub send : IsSend the_row
send = record { owned = λ place. owned place.at place.alloc place.kept; leaving = λ kept place last. tt }
