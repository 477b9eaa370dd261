-- What a handle on a key of a store is made of.
use Rattle.std.specs.Borrow.{GName}
use Rattle.zarrs_stores.specs.declared.store_handle.StoreHandle.{StoreHandle}

-- the store, as it stands
abbrev pub store_of : {S L : Type 0} {s : _} {l : _} → StoreHandle S L s l → S
store_of handle = handle.store.now

-- the name of the reference by which it is lent
abbrev pub lender_name : {S L : Type 0} {s : _} {l : _} → StoreHandle S L s l → GName
lender_name handle = handle.store.ghost_name
