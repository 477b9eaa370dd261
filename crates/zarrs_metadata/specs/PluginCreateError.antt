-- The errors of reading metadata and of making the codecs of it.
-- Source: zarrs, `PluginCreateError`.
use Rattle.std.specs.Prelude.{ℕ, Bool, true, false, List, Result, codes}
use Rattle.zarrs_chunk.specs.Answer.{Answers}
use Rattle.zarrs_metadata.specs.declared.plugin_create_error.PluginCreateError.{PluginCreateError}
use Rattle.zarrs_metadata.specs.declared.plugin_create_error.PluginCreateError.TheVariants.{OutOfMemory, UnknownName, InvalidConfiguration, MissingArrayToBytes, MultipleArrayToBytes, BitOrder, MultipleAuto, ZeroSize, NotAPermutation}

-- out of memory, which a call that allocates may return at any time
abbrev pub plugin_memory : PluginCreateError → Bool
plugin_memory OutOfMemory = true
plugin_memory _ = false

-- What is made, seen by `view`, is the expected value, or its first error is returned; only lack of memory may come in its place.
abbrev pub Makes : {T V : Type 0} → (T → V) → Result T PluginCreateError → Result V PluginCreateError → Type 0
Makes view result expected = Answers plugin_memory view result expected

-- the name of an error, as its bytes
abbrev pub plugin_name_of : PluginCreateError → List ℕ
plugin_name_of OutOfMemory = codes "OutOfMemory"
plugin_name_of UnknownName = codes "UnknownName"
plugin_name_of InvalidConfiguration = codes "InvalidConfiguration"
plugin_name_of MissingArrayToBytes = codes "MissingArrayToBytes"
plugin_name_of MultipleArrayToBytes = codes "MultipleArrayToBytes"
plugin_name_of BitOrder = codes "BitOrder"
plugin_name_of MultipleAuto = codes "MultipleAuto"
plugin_name_of ZeroSize = codes "ZeroSize"
plugin_name_of NotAPermutation = codes "NotAPermutation"
