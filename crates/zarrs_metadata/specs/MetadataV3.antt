-- What contracts see of a configuration and of a metadata.
-- Source: the Zarr v3 core specification, `codecs`.
use Rattle.std.specs.Prelude.{List, Vec, map, Option, option_map, string_bytes, String, Result, Ok}
use Rattle.std.proofs.Common.{Bor}
use Rattle.std.specs.declared.collections.BTreeMap.{BTreeMap}
use Rattle.std.specs.declared.alloc.Global.{Global}
use Rattle.serde_json.specs.Data.{Members}
use Rattle.serde_json.specs.View.{members_view}
use Rattle.serde_json.specs.declared.value.Value.{Value}
use Rattle.zarrs_metadata.specs.Metadata.{Metadata}
use Rattle.zarrs_metadata.specs.PluginCreateError.{Makes}
use Rattle.zarrs_metadata.specs.declared.plugin_create_error.PluginCreateError.{PluginCreateError}
use Rattle.zarrs_metadata.specs.declared.metadata_v3.MetadataV3.{MetadataV3}

-- the members of a configuration, in order
abbrev pub configuration_seen : BTreeMap (String Global) Value Global → Members
configuration_seen configuration = members_view configuration.entries

-- the members of a configuration that is lent, where there is one
abbrev pub lent_members : Option (Bor (BTreeMap (String Global) Value Global)) → Option Members
lent_members configuration = option_map (λ members. configuration_seen members.now) configuration

-- what a reading of members makes of those of a configuration
abbrev pub read_by : {A : Type 0} → (Members → A) → BTreeMap (String Global) Value Global → A
read_by reading configuration = reading (configuration_seen configuration)

-- the configuration that is written has these members
abbrev pub Writes : Result (BTreeMap (String Global) Value Global) PluginCreateError → Members → Type 0
Writes result members = Makes configuration_seen result (Ok members)

-- the configuration that is made has the expected members, where one is expected
abbrev pub MakesConfiguration : Result (Option (BTreeMap (String Global) Value Global)) PluginCreateError → Result (Option Members) PluginCreateError → Type 0
MakesConfiguration result expected = Makes (option_map configuration_seen) result expected

-- what a `MetadataV3` is seen as: its name, its configuration's members, and whether it has to be understood
abbrev pub metadata_seen : MetadataV3 → Metadata
metadata_seen m = record { name = string_bytes m.name; configuration = option_map configuration_seen m.configuration; must_understand = m.must_understand }

-- each metadata of a list as contracts see it
abbrev pub metadatas_seen : List MetadataV3 → List Metadata
metadatas_seen list = map metadata_seen list

-- what the items of a vector of `MetadataV3` are seen as, in order
abbrev pub metadatas_in : Vec MetadataV3 Global → List Metadata
metadatas_in list = metadatas_seen list.items
