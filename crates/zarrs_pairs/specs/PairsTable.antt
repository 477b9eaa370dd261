-- What a table of pairs holds.
use Rattle.zarrs_metadata.specs.Metadata.{Metadata}
use Rattle.zarrs_metadata.specs.MetadataV3.{metadata_seen}
use Rattle.zarrs_pairs.specs.Pairs.{Pairs}
use Rattle.zarrs_pairs.specs.Rows.{rows_seen}
use Rattle.zarrs_pairs.specs.declared.pairs_table.PairsTable.{PairsTable}

-- the metadata of a table's codec
abbrev pub table_metadata : PairsTable → Metadata
table_metadata table = metadata_seen table.metadata

-- the pairs of a table
abbrev pub pairs_of : PairsTable → Pairs
pairs_of table = rows_seen table.by_decoded.items
