-- Lists of hex texts, as the tokens of a JSON text.
use Rattle.std.specs.Prelude.{◌≡◌, ℕ, List, [], ◌∷◌, ◌++◌, map, Some, Ok}
use Rattle.hex.specs.Hex.{decode_sized}
use Rattle.json.specs.Token.{Token}
use Rattle.serde_json.specs.Data.{Items, string, array}
use Rattle.serde_json.specs.Read.{read}
use Rattle.serde_json.specs.View.{items_of}

-- these are the bytes of hex texts, each of so many bytes
abbrev pub AreHexTexts : ℕ → List (List ℕ) → List ℕ → Type 0
AreHexTexts size [] bytes = bytes ≡ []
AreHexTexts size (text ∷ texts) bytes = (first rest : List ℕ) × (decode_sized text size ≡ Ok first) × AreHexTexts size texts rest × (bytes ≡ first ++ rest)

-- the bytes of a hex text, so many of them, are appended
abbrev pub AppendsHex : ℕ → List ℕ → List ℕ → List ℕ → Type 0
AppendsHex size text before after = (bytes : List ℕ) × (decode_sized text size ≡ Ok bytes) × (after ≡ before ++ bytes)

-- a hex text is taken of the tokens, and its bytes are appended
abbrev pub TakesText : ℕ → List Token → List Token → List ℕ → List ℕ → Type 0
TakesText size old new before after = (text : List ℕ) × (old ≡ Token.string text ∷ new) × AppendsHex size text before after

-- the tokens of texts, and the others behind them
abbrev pub texts_before : List (List ℕ) → List Token → List Token
texts_before texts others = map Token.string texts ++ others

-- hex texts are taken of the tokens, up to the end of the list that they are in; these are their bytes
abbrev pub TakesTexts : ℕ → List Token → List Token → List ℕ → Type 0
TakesTexts size old new bytes = (texts : List (List ℕ)) × (old ≡ texts_before texts (Token.end_array ∷ new)) × AreHexTexts size texts bytes

-- the tokens are a list of hex texts and nothing else; these are their bytes
abbrev pub IsHexList : ℕ → List Token → List ℕ → Type 0
IsHexList size tokens bytes = (rest : List Token) × (tokens ≡ Token.begin_array ∷ rest) × TakesTexts size rest [] bytes

-- texts as the items of a list
abbrev pub text_items : List (List ℕ) → Items
text_items texts = items_of (map string texts)

-- the JSON text is a list of hex texts; these are their bytes
abbrev pub ListsHexTexts : ℕ → List ℕ → List ℕ → Type 0
ListsHexTexts size text bytes = (texts : List (List ℕ)) × (read text ≡ Some (array (text_items texts))) × AreHexTexts size texts bytes
