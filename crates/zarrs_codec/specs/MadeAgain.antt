-- What is made again of what is written of a codec.
use Rattle.std.specs.Prelude.{◌≡◌, ℕ, List, Option, IfSome, Result, Ok, IfOk}
use Rattle.zarrs_metadata.specs.CodecMetadata.{codec_metadata}
use Rattle.zarrs_metadata.specs.Data.{Members}
use Rattle.zarrs_metadata.specs.Metadata.{Metadata}
use Rattle.zarrs_metadata.specs.declared.plugin_create_error.PluginCreateError.{PluginCreateError}

-- the configuration that is written, seen as its members, makes an equal codec under this name
abbrev pub MadeAgain : {C W : Type 0} → (W → Members) → Result (Option W) PluginCreateError → (Metadata → Result C PluginCreateError) → List ℕ → C → Type 0
MadeAgain members result made name codec =
    IfOk result (λ written. IfSome written (λ configuration. made (codec_metadata name (members configuration)) ≡ Ok codec))
