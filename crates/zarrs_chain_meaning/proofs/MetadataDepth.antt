-- What is read of a configuration is less deep than the configuration.
use Rattle.std.proofs.Common.{ℕ, suc, ◌<◌, ◌≤◌, max, List, Ok, Err, Bool, Option, Some, None, IfSome, IfOk, Ordering, Less, Equal, Greater, codes, subst, arith}
use Rattle.std.specs.Prelude.{Result, option_and_then, ok_or}
use Rattle.std.specs.Ordering.{nat_cmp, match_ordering}
use Rattle.std.specs.Cmp.Lexicographic.{slice_cmp}
use Rattle.serde_json.specs.Data.{Data, null, boolean, number, string, array, object, Items, no_items, item, Members, no_members, member, depth, items_depth, members_depth}
use Rattle.serde_json.specs.Find.{get_member, as_array, as_object, as_bool, as_str}
use Rattle.zarrs_chunk.specs.Answer.{◌>>=◌, Answers, demand}
use Rattle.zarrs_chunk.specs.ChunkShape.{shape_of}
use Rattle.zarrs_metadata.specs.CodecMetadata.{made_of, members_of}
use Rattle.zarrs_metadata.specs.Metadata.{Metadata, metadata_of, unless_false}
use Rattle.zarrs_metadata.specs.MetadataList.{metadata_among, metadata_at}
use Rattle.zarrs_metadata.specs.OptionalConfiguration.{OptionalChains, optional_seen, read_optional}
use Rattle.zarrs_metadata.specs.PluginCreateError.{plugin_memory}
use Rattle.zarrs_metadata.specs.ShardingConfiguration.{ShardingParts, sharding_seen, read_sharding, shard_index_in}
use Rattle.zarrs_metadata.specs.Trees.{needed, optional_key, without_floats, number_list}
use Rattle.zarrs_metadata.specs.VlenConfiguration.{VlenParts, vlen_seen, read_vlen, index_data_type_in, index_location_in}
use Rattle.zarrs_metadata.specs.declared.codec.sharding.ShardingIndexLocation.{ShardingIndexLocation}
use Rattle.zarrs_metadata.specs.declared.codec.vlen.VlenIndexDataType.{VlenIndexDataType}
use Rattle.zarrs_metadata.specs.declared.codec.vlen.VlenIndexLocation.{VlenIndexLocation}
use Rattle.zarrs_metadata.specs.declared.configuration.optional.OptionalCodecConfiguration.{OptionalCodecConfiguration}
use Rattle.zarrs_metadata.specs.declared.configuration.sharding.ShardingCodecConfiguration.{ShardingCodecConfiguration}
use Rattle.zarrs_metadata.specs.declared.configuration.vlen.VlenCodecConfiguration.{VlenCodecConfiguration}
use Rattle.zarrs_metadata.specs.declared.plugin_create_error.PluginCreateError.{PluginCreateError}
use Rattle.zarrs_metadata.specs.declared.plugin_create_error.PluginCreateError.TheVariants.{ZeroSize}
use Rattle.zarrs_chain_meaning.specs.CodecNames.{is_vlen_name, is_optional_name, is_sharding_name}
use Rattle.zarrs_chain_meaning.specs.MadeChain.{depth_of, depth_all}

bind : {E A B : Type 0} (r : Result A E) (f : A → Result B E) (P : A → Type 0) (Q : B → Type 0) → IfOk r P → ((a : A) → P a → IfOk (f a) Q) → IfOk (r >>= f) Q
bind (Ok a) f P Q h k = k a h
bind (Err e) f P Q h k = tt

any : {E A : Type 0} (r : Result A E) → IfOk r (λ _. Unit {0})
any (Ok a) = tt
any (Err e) = tt

found : (o : Ordering) (d : Data) (rest : Option Data) (n m : ℕ) → depth d ≤ n → n ≤ m → IfSome rest (λ e. depth e ≤ m) → IfSome (match_ordering o rest (Some d) rest) (λ e. depth e ≤ m)
found Less d rest n m h le more = more
found Equal d rest n m h le more = omega (arith, h, le)
found Greater d rest n m h le more = more

wider : (o : Option Data) (n m : ℕ) → n ≤ m → IfSome o (λ e. depth e ≤ n) → IfSome o (λ e. depth e ≤ m)
wider None n m le h = tt
wider (Some d) n m le h = omega (arith, h, le)

member-depth : (k : List ℕ) (ms : Members) → IfSome (get_member k ms) (λ d. depth d ≤ members_depth ms)
member-depth k no_members = tt
member-depth k (member l d ms) =
    found (slice_cmp nat_cmp k l) d (get_member k ms) (depth d) (max (depth d) (members_depth ms)) (omega arith) (omega arith)
    (wider (get_member k ms) (members_depth ms) (max (depth d) (members_depth ms)) (omega arith) (member-depth k ms))

-- a configuration is less deep than the tree that holds it
configuration-depth : (o : Option Data) (n : ℕ) → IfSome o (λ d. depth d ≤ n) → IfOk (optional_key as_object o) (λ c. members_depth (members_of c) ≤ n)
configuration-depth None n h = omega arith
configuration-depth (Some null) n h = omega arith
configuration-depth (Some (boolean b)) n h = tt
configuration-depth (Some (number x)) n h = tt
configuration-depth (Some (string s)) n h = tt
configuration-depth (Some (array ds)) n h = tt
configuration-depth (Some (object ms)) n h = omega (arith, h)

metadata-depth : (d : Data) → IfOk (metadata_of d) (λ m. depth_of m ≤ depth d)
metadata-depth null = tt
metadata-depth (boolean b) = tt
metadata-depth (number n) = tt
metadata-depth (string s) = omega arith
metadata-depth (array ds) = tt
metadata-depth (object ms) =
    bind (needed (option_and_then as_str (get_member (codes "name") ms))) _ (λ _. Unit {0}) (λ m. depth_of m ≤ suc (members_depth ms)) (any _) (λ name _.
    bind (optional_key as_object (get_member (codes "configuration") ms)) _ (λ c. members_depth (members_of c) ≤ members_depth ms) (λ m. depth_of m ≤ suc (members_depth ms))
    (configuration-depth (get_member (codes "configuration") ms) (members_depth ms) (member-depth (codes "configuration") ms)) (λ c within.
    with_flag name c (optional_key as_bool (get_member (codes "must_understand") ms)) (members_depth ms) within))
  where
    with_flag : (name : List ℕ) (c : Option Members) (flag : Result (Option Bool) PluginCreateError) (n : ℕ) → members_depth (members_of c) ≤ n
        → IfOk (flag >>= (λ b. Ok (record { name = name; configuration = c; must_understand = unless_false b }))) (λ m. depth_of m ≤ suc n)
    with_flag name c (Ok b) n within = omega (arith, within)
    with_flag name c (Err e) n within = tt

among-depth : (ds : Items) → IfOk (metadata_among ds) (λ ms. depth_all ms ≤ items_depth ds)
among-depth no_items = omega arith
among-depth (item d ds) =
    bind (metadata_of d) _ (λ m. depth_of m ≤ depth d) (λ ms. depth_all ms ≤ max (depth d) (items_depth ds)) (metadata-depth d) (λ m first.
    bind (metadata_among ds) _ (λ ms. depth_all ms ≤ items_depth ds) (λ ms. depth_all ms ≤ max (depth d) (items_depth ds)) (among-depth ds) (λ ms others. omega (arith, first, others)))

less : {E : Type 0} (r : Result (List Metadata) E) (n m : ℕ) → suc n ≤ m → IfOk r (λ ms. depth_all ms ≤ n) → IfOk r (λ ms. depth_all ms < m)
less (Ok ms) n m le h = omega (arith, le, h)
less (Err e) n m le h = tt

abbrev list_of : Data → Result (List Metadata) PluginCreateError
list_of tree = do
  items ← needed (as_array tree)
  metadata_among items

list-depth : (d : Data) (n : ℕ) → depth d ≤ n → IfOk (list_of d) (λ ms. depth_all ms < n)
list-depth null n h = tt
list-depth (boolean b) n h = tt
list-depth (number x) n h = tt
list-depth (string s) n h = tt
list-depth (array ds) n h = less (metadata_among ds) (items_depth ds) n (omega (arith, h)) (among-depth ds)
list-depth (object ms) n h = tt

at-depth : (o : Option Data) (n : ℕ) → IfSome o (λ d. depth d ≤ n) → IfOk (needed o >>= list_of) (λ ms. depth_all ms < n)
at-depth None n h = tt
at-depth (Some d) n h = list-depth d n h

metadata_at-depth : (key : List ℕ) (ms : Members) → IfOk (metadata_at key ms) (λ list. depth_all list < members_depth ms)
metadata_at-depth key ms = at-depth (get_member key ms) (members_depth ms) (member-depth key ms)

-- ---- vlen

-- both lists are less deep
abbrev pub VlenWithin : ℕ → VlenParts → Type 0
VlenWithin n parts = (depth_all parts.index_codecs < n) × (depth_all parts.data_codecs < n)

vlen-read : (clean : Result (Unit {0}) PluginCreateError) (index content : Result (List Metadata) PluginCreateError) (type : Result VlenIndexDataType PluginCreateError) (location : Result (Option VlenIndexLocation) PluginCreateError) (n : ℕ)
    → IfOk index (λ xs. depth_all xs < n) → IfOk content (λ xs. depth_all xs < n)
    → IfOk (clean >>= (λ _. index >>= (λ i. content >>= (λ x. type >>= (λ t. location >>= (λ l. Ok (record { index_codecs = i; data_codecs = x; index_data_type = t; index_location = l }))))))) (VlenWithin n)
vlen-read (Ok u) (Ok i) (Ok x) (Ok t) (Ok l) n first second =
    let pair : VlenWithin n (record { index_codecs = i; data_codecs = x; index_data_type = t; index_location = l }) = (first, second) in pair
vlen-read (Ok u) (Ok i) (Ok x) (Ok t) (Err e) n first second = tt
vlen-read (Ok u) (Ok i) (Ok x) (Err e) location n first second = tt
vlen-read (Ok u) (Ok i) (Err e) type location n first second = tt
vlen-read (Ok u) (Err e) content type location n first second = tt
vlen-read (Err e) index content type location n first second = tt

vlen-depth : (ms : Members) → IfOk (read_vlen ms) (VlenWithin (members_depth ms))
vlen-depth ms =
    vlen-read (without_floats ms) (metadata_at (codes "index_codecs") ms) (metadata_at (codes "data_codecs") ms) (index_data_type_in (get_member (codes "index_data_type") ms)) (index_location_in (get_member (codes "index_location") ms)) (members_depth ms)
    (metadata_at-depth (codes "index_codecs") ms) (metadata_at-depth (codes "data_codecs") ms)

pub vlen_within : (m : Metadata) → IfOk (made_of is_vlen_name read_vlen m) (VlenWithin (depth_of m))
vlen_within m = bind (demand (is_vlen_name m.name) _) _ (λ _. Unit {0}) (VlenWithin (depth_of m)) (any _) (λ named _. vlen-depth (members_of m.configuration))

pub vlen_index_within : (result : Result VlenCodecConfiguration PluginCreateError) (m : Metadata) → Answers plugin_memory vlen_seen result (made_of is_vlen_name read_vlen m) → IfOk result (λ c. depth_all (vlen_seen c).index_codecs < depth_of m)
vlen_index_within (Ok c) m h = (subst (λ (r : Result VlenParts PluginCreateError). IfOk r (VlenWithin (depth_of m))) h (vlen_within m)).0
vlen_index_within (Err e) m h = tt

pub vlen_data_within : (result : Result VlenCodecConfiguration PluginCreateError) (m : Metadata) → Answers plugin_memory vlen_seen result (made_of is_vlen_name read_vlen m) → IfOk result (λ c. depth_all (vlen_seen c).data_codecs < depth_of m)
vlen_data_within (Ok c) m h = (subst (λ (r : Result VlenParts PluginCreateError). IfOk r (VlenWithin (depth_of m))) h (vlen_within m)).1
vlen_data_within (Err e) m h = tt

-- ---- optional

abbrev pub OptionalWithin : ℕ → OptionalChains → Type 0
OptionalWithin n chains = (depth_all chains.mask_codecs < n) × (depth_all chains.data_codecs < n)

optional-read : (clean : Result (Unit {0}) PluginCreateError) (mask content : Result (List Metadata) PluginCreateError) (n : ℕ) → IfOk mask (λ xs. depth_all xs < n) → IfOk content (λ xs. depth_all xs < n)
    → IfOk (clean >>= (λ _. mask >>= (λ m. content >>= (λ x. Ok (record { mask_codecs = m; data_codecs = x }))))) (OptionalWithin n)
optional-read (Ok u) (Ok m) (Ok x) n first second =
    let pair : OptionalWithin n (record { mask_codecs = m; data_codecs = x }) = (first, second) in pair
optional-read (Ok u) (Ok m) (Err e) n first second = tt
optional-read (Ok u) (Err e) content n first second = tt
optional-read (Err e) mask content n first second = tt

optional-depth : (ms : Members) → IfOk (read_optional ms) (OptionalWithin (members_depth ms))
optional-depth ms =
    optional-read (without_floats ms) (metadata_at (codes "mask_codecs") ms) (metadata_at (codes "data_codecs") ms) (members_depth ms) (metadata_at-depth (codes "mask_codecs") ms) (metadata_at-depth (codes "data_codecs") ms)

pub optional_within : (m : Metadata) → IfOk (made_of is_optional_name read_optional m) (OptionalWithin (depth_of m))
optional_within m = bind (demand (is_optional_name m.name) _) _ (λ _. Unit {0}) (OptionalWithin (depth_of m)) (any _) (λ named _. optional-depth (members_of m.configuration))

pub optional_mask_within : (result : Result OptionalCodecConfiguration PluginCreateError) (m : Metadata) → Answers plugin_memory optional_seen result (made_of is_optional_name read_optional m) → IfOk result (λ c. depth_all (optional_seen c).mask_codecs < depth_of m)
optional_mask_within (Ok c) m h = (subst (λ (r : Result OptionalChains PluginCreateError). IfOk r (OptionalWithin (depth_of m))) h (optional_within m)).0
optional_mask_within (Err e) m h = tt

pub optional_data_within : (result : Result OptionalCodecConfiguration PluginCreateError) (m : Metadata) → Answers plugin_memory optional_seen result (made_of is_optional_name read_optional m) → IfOk result (λ c. depth_all (optional_seen c).data_codecs < depth_of m)
optional_data_within (Ok c) m h = (subst (λ (r : Result OptionalChains PluginCreateError). IfOk r (OptionalWithin (depth_of m))) h (optional_within m)).1
optional_data_within (Err e) m h = tt

-- ---- sharding_indexed

abbrev pub ShardingWithin : ℕ → ShardingParts → Type 0
ShardingWithin n parts = (depth_all parts.codecs < n) × (depth_all parts.index_codecs < n)

sharding-read : (clean : Result (Unit {0}) PluginCreateError) (tree : Result Data PluginCreateError) (sizes : Data → Result (List ℕ) PluginCreateError) (inner index : Result (List Metadata) PluginCreateError) (location : Result ShardingIndexLocation PluginCreateError) (shape : List ℕ → Result (List ℕ) PluginCreateError) (n : ℕ)
    → IfOk inner (λ xs. depth_all xs < n) → IfOk index (λ xs. depth_all xs < n)
    → IfOk (clean >>= (λ _. tree >>= (λ t. sizes t >>= (λ s. inner >>= (λ x. index >>= (λ i. location >>= (λ l. shape s >>= (λ c. Ok (record { chunk_shape = c; codecs = x; index_codecs = i; index_location = l }))))))))) (ShardingWithin n)
sharding-read clean tree sizes inner index location shape n first second =
    bind clean _ (λ _. Unit {0}) (ShardingWithin n) (any clean) (λ u _.
    bind tree _ (λ _. Unit {0}) (ShardingWithin n) (any tree) (λ t _.
    bind (sizes t) _ (λ _. Unit {0}) (ShardingWithin n) (any (sizes t)) (λ s _.
    bind inner _ (λ xs. depth_all xs < n) (ShardingWithin n) first (λ x inside.
    bind index _ (λ xs. depth_all xs < n) (ShardingWithin n) second (λ i within.
    bind location _ (λ _. Unit {0}) (ShardingWithin n) (any location) (λ l _.
    bind (shape s) _ (λ _. Unit {0}) (ShardingWithin n) (any (shape s)) (λ c _.
    let pair : ShardingWithin n (record { chunk_shape = c; codecs = x; index_codecs = i; index_location = l }) = (inside, within) in pair)))))))

sharding-depth : (ms : Members) → IfOk (read_sharding ms) (ShardingWithin (members_depth ms))
sharding-depth ms =
    sharding-read (without_floats ms) (needed (get_member (codes "chunk_shape") ms)) number_list (metadata_at (codes "codecs") ms) (metadata_at (codes "index_codecs") ms) (shard_index_in (get_member (codes "index_location") ms)) (λ sizes. ok_or (shape_of sizes) ZeroSize) (members_depth ms)
    (metadata_at-depth (codes "codecs") ms) (metadata_at-depth (codes "index_codecs") ms)

pub sharding_within : (m : Metadata) → IfOk (made_of is_sharding_name read_sharding m) (ShardingWithin (depth_of m))
sharding_within m = bind (demand (is_sharding_name m.name) _) _ (λ _. Unit {0}) (ShardingWithin (depth_of m)) (any _) (λ named _. sharding-depth (members_of m.configuration))

pub sharding_inner_within : (result : Result ShardingCodecConfiguration PluginCreateError) (m : Metadata) → Answers plugin_memory sharding_seen result (made_of is_sharding_name read_sharding m) → IfOk result (λ c. depth_all (sharding_seen c).codecs < depth_of m)
sharding_inner_within (Ok c) m h = (subst (λ (r : Result ShardingParts PluginCreateError). IfOk r (ShardingWithin (depth_of m))) h (sharding_within m)).0
sharding_inner_within (Err e) m h = tt

pub sharding_index_within : (result : Result ShardingCodecConfiguration PluginCreateError) (m : Metadata) → Answers plugin_memory sharding_seen result (made_of is_sharding_name read_sharding m) → IfOk result (λ c. depth_all (sharding_seen c).index_codecs < depth_of m)
sharding_index_within (Ok c) m h = (subst (λ (r : Result ShardingParts PluginCreateError). IfOk r (ShardingWithin (depth_of m))) h (sharding_within m)).1
sharding_index_within (Err e) m h = tt
