-- What is written of an order, or of sizes, is read as the same.
use Rattle.std.proofs.Common.{◌≡◌, ℕ, true, List, Ok, sym}
use Rattle.zarrs_metadata.specs.CodecMetadata.{codec_metadata, transpose_name, transpose_made, reshape_name, reshape_made}
use Rattle.zarrs_metadata.specs.Data.{Members}
use Rattle.zarrs_metadata.specs.Dims.{Dim, is_reshape}
use Rattle.zarrs_metadata.specs.Orders.{is_order}
use Rattle.zarrs_metadata.specs.ReshapeConfiguration.{write_reshape}
use Rattle.zarrs_metadata.specs.TransposeConfiguration.{write_transpose}
use Rattle.zarrs_metadata.proofs.MadeAgain.{transpose-made_again, reshape-made_again}

pub order_made_again : (order : List ℕ) (members : Members) → is_order order ≡ true → write_transpose order ≡ members → transpose_made (codec_metadata transpose_name members) ≡ Ok order
order_made_again order members h e = rw (sym e) (transpose-made_again order h)

pub dims_made_again : (dims : List Dim) (members : Members) → is_reshape dims ≡ true → write_reshape dims ≡ members → reshape_made (codec_metadata reshape_name members) ≡ Ok dims
dims_made_again dims members h e = rw (sym e) (reshape-made_again dims h)
