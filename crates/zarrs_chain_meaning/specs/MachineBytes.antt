-- Containers whose numbers are bytes.
use Rattle.zarrs_array_bytes.specs.Held.{Held, flen, vlen, masked}
use Rattle.zarrs_codec.specs.BytesToBytesCodec.{AreBytes}

-- each number of a container's elements is a byte
abbrev pub HeldHasBytes : Held → Type 0
HeldHasBytes (flen raw) = AreBytes raw.items
HeldHasBytes (vlen raw offsets) = AreBytes raw.items
HeldHasBytes (masked inner mask) = HeldHasBytes inner
