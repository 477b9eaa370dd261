use Rattle.zarrs_array_to_array.proofs.Chains.{chain_map}
use Rattle.zarrs_array_regions.specs.Windows.{window_of, last_window, region_map}
use Rattle.zarrs_array_regions.proofs.KeptChains.{chain_keeps, places_stay}
use Rattle.zarrs_array_regions.proofs.WindowMaps.{windows_select, windows_update, here_is}
use Rattle.zarrs_array_regions.proofs.laws.regions_are_kept.Goals as goal

pub returns-clause-stay : goal.returns-clause-stay
returns-clause-stay c = places_stay

pub returns-clause-kept : goal.returns-clause-kept
returns-clause-kept c = chain_keeps

pub returns-clause-read : goal.returns-clause-read
returns-clause-read c = λ codecs sizes m region are positive h kept inside chunk.
    let window = window_of sizes region in
    windows_select sizes m window (last_window codecs window) (region_map codecs window) chunk (chain_map codecs sizes m are positive h) (here_is sizes region inside) (chain_keeps codecs sizes m region are positive h kept inside)

pub returns-clause-written : goal.returns-clause-written
returns-clause-written c = λ codecs sizes m region are positive h kept inside chunk new e n.
    let window = window_of sizes region in
    windows_update sizes m window (last_window codecs window) (region_map codecs window) chunk new (chain_map codecs sizes m are positive h) (here_is sizes region inside) (chain_keeps codecs sizes m region are positive h kept inside) e n
