-- Lists of hex texts: one text more, and what a JSON text that is one reads as.
use Rattle.std.proofs.Common.{◌≡◌, ◌∙◌, ℕ, List, [], ◌∷◌, ◌++◌, Option, Some, option_map, option_and_then, Ok, refl, ap, sym, arith, append_assoc, append-nil}
use Rattle.hex.specs.Hex.{decode_sized}
use Rattle.json.specs.Token.{Token}
use Rattle.json.specs.Lex.{tokens}
use Rattle.json.specs.Json as json
use Rattle.json.specs.Tree.{json_tokens, items_tokens, items_depth}
use Rattle.json.proofs.Printed.Trees.{value-json_tokens}
use Rattle.serde_json.specs.Data.{Data, string, array, item}
use Rattle.serde_json.specs.Read.{of_json, of_items, max_depth}
use Rattle.zarrs_json.specs.HexLists.{AreHexTexts, texts_before, IsHexList, text_items, ListsHexTexts}

-- ---- one text more

pub AreHexTexts-more : (size : ℕ) (texts : List (List ℕ)) (bytes text piece : List ℕ) → AreHexTexts size texts bytes → decode_sized text size ≡ Ok piece → AreHexTexts size (texts ++ text ∷ []) (bytes ++ piece)
AreHexTexts-more size [] bytes text piece h e = (piece, [], e, refl, ap (λ xs. xs ++ piece) h ∙ sym (append-nil piece))
AreHexTexts-more size (t ∷ ts) bytes text piece h e =
    (h.0, h.1 ++ piece, h.2, AreHexTexts-more size ts h.1 text piece h.3 e, ap (λ xs. xs ++ piece) h.4 ∙ append_assoc h.0 h.1 piece)

pub texts_before-more : (texts : List (List ℕ)) (text : List ℕ) (others : List Token) → texts_before texts (Token.string text ∷ others) ≡ texts_before (texts ++ text ∷ []) others
texts_before-more [] text others = refl
texts_before-more (t ∷ ts) text others = ap (λ tokens. Token.string t ∷ tokens) (texts_before-more ts text others)

-- ---- what a list of texts reads as

-- texts as the items of a list, as the grammar has them
abbrev grammar_items : List (List ℕ) → json.Items
grammar_items [] = json.no_items
grammar_items (text ∷ texts) = json.item (json.string text) (grammar_items texts)

items_tokens-texts : (texts : List (List ℕ)) → items_tokens (grammar_items texts) ≡ texts_before texts (Token.end_array ∷ [])
items_tokens-texts [] = refl
items_tokens-texts (t ∷ ts) = ap (λ tokens. Token.string t ∷ tokens) (items_tokens-texts ts)

items_depth-texts : (texts : List (List ℕ)) → items_depth (grammar_items texts) ≡ 0
items_depth-texts [] = refl
items_depth-texts (t ∷ ts) = omega (arith, items_depth-texts ts)

of_items-texts : (texts : List (List ℕ)) → of_items (grammar_items texts) ≡ Some (text_items texts)
of_items-texts [] = refl
of_items-texts (t ∷ ts) = ap (option_map (item (string t))) (of_items-texts ts)

-- the data of the tokens of a whole text
abbrev data_of : List Token → Option Data
data_of ts = option_and_then of_json (option_and_then (λ p. json.if_last p.0 p.1) (json.value max_depth ts))

pub hex_list_read : (size : ℕ) (text bytes : List ℕ) → IsHexList size (tokens text) bytes → ListsHexTexts size text bytes
hex_list_read size text bytes h =
    let texts = h.2.0 in
    let tree = json.array (grammar_items texts) in
    let is : tokens text ≡ json_tokens tree ++ [] = h.1 ∙ ap (λ ts. Token.begin_array ∷ ts) (h.2.1 ∙ sym (items_tokens-texts texts)) ∙ sym (append-nil (json_tokens tree)) in
    let read_as = value-json_tokens tree max_depth [] (omega (arith, items_depth-texts texts)) in
    let whole = ap (λ r. option_and_then of_json (option_and_then (λ p. json.if_last p.0 p.1) r)) read_as in
    (texts, ap data_of is ∙ whole ∙ ap (option_map array) (of_items-texts texts), h.2.2)
