-- How clauses see handles of C.
use Rattle.std.specs.Prelude.{Option, option_map}
use Rattle.zarrs_json.specs.Header.{Header}
use Rattle.zarrs_kept_chains.specs.Kept.{header_shown}
use Rattle.zarrs_kept_chains.specs.declared.kept_chain.KeptChain.{KeptChain}

-- the header that C keeps by a handle, as plain data, or none
abbrev pub kept_header : KeptChain → Option Header
kept_header chain = option_map header_shown chain.place.kept
