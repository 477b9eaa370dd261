use Rattle.std.proofs.Common.{◌≡◌, ◌<◌, ◌+◌, ◌*◌, ◌^◌, true, length}
use Rattle.std.specs.List.{All}
use Rattle.zarrs_codec.specs.Calls.{after_asking, after_reads}
use Rattle.zarrs_codec.specs.StorageState.{are_sure}
use Rattle.zarrs_bytes.specs.AskedRanges.{ranges_by_batches}
use Rattle.zarrs_bytes.specs.PartialRead.{place_bytes}
use Rattle.zarrs_bytes.specs.ReadingCalls.{batch_count}
use Rattle.zarrs_bytes.proofs.PlaceBatches.{left}
use Rattle.zarrs_bytes.proofs.place_batches.append_places.Given as goal

abbrev pub invariant-loop-rest : goal.invariant-loop-rest
invariant-loop-rest g l = record {
  ends : All (λ place. (place + 1) * l.size < 2 ^ 64) l.rest;
  read : left l.size (g.H.BytesPartialDecoderTraits.state l.fn.handle).value l.fn.elements.items l.places l.elements.items l.rest;
  sure : are_sure (g.H.BytesPartialDecoderTraits.state l.fn.handle).sure (place_bytes l.size l.places) ≡ true → are_sure (g.H.BytesPartialDecoderTraits.state l.fn.handle).sure (place_bytes l.size l.rest) ≡ true;
  state : g.H.BytesPartialDecoderTraits.state l.handle ≡ g.H.BytesPartialDecoderTraits.state l.fn.handle;
  lent : g.H.BytesPartialDecoderTraits.lent l.handle ≡ g.H.BytesPartialDecoderTraits.lent l.fn.handle;
  calls : after_reads (batch_count (length l.rest)) (g.H.BytesPartialDecoderTraits.calls l.handle) ≡ after_reads (batch_count (length l.places)) (g.H.BytesPartialDecoderTraits.calls l.fn.handle);
  asked : after_asking (ranges_by_batches l.size l.rest) (g.H.BytesPartialDecoderTraits.asked l.handle) ≡ after_asking (ranges_by_batches l.size l.places) (g.H.BytesPartialDecoderTraits.asked l.fn.handle);
}

abbrev pub decreases-loop-rest : goal.decreases-loop-rest
decreases-loop-rest g l = length l.rest
