-- What is kept.
use Rattle.zarrs_json.specs.Header.{Header}
use Rattle.zarrs_json.specs.HeaderRead.{header_seen}
use Rattle.zarrs_json.specs.declared.header.ChunkHeader.{ChunkHeader}
use Rattle.zarrs_kept_chains.specs.declared.kept.Kept.{Kept}

-- the header that is kept
abbrev pub header_of : Kept → ChunkHeader
header_of kept = kept.header.value

-- the same as plain data
abbrev pub header_shown : Kept → Header
header_shown kept = header_seen (header_of kept)
