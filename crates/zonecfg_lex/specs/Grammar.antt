-- The grammar of a value, over the kinds of its tokens.
use Rattle.std.specs.Prelude.{◌≡◌, ◌⊎◌, ℕ, List, [], ◌∷◌, ◌++◌, map}
use Rattle.zonecfg_lex.specs.declared.token.Token.{Token}
use Rattle.zonecfg_lex.specs.declared.token.TokenKind.{TokenKind}
use Rattle.zonecfg_lex.specs.declared.token.TokenKind.TheVariants.{Word, Quoted, Equals, Comma, Open, Close, ListOpen, ListClose}

-- a word or a quoted text
pub data IsText : TokenKind → Type 0 where
  word : IsText Word
  quoted : IsText Quoted

-- one pair or more, with a comma between two; a pair is a word, `=` and a text
pub data IsPairs : List TokenKind → Type 0 where
  last_pair : {text : TokenKind} → IsText text → IsPairs (Word ∷ Equals ∷ text ∷ [])
  pair_before : {text : TokenKind} {pairs : List TokenKind} → IsText text → IsPairs pairs → IsPairs (Word ∷ Equals ∷ text ∷ Comma ∷ pairs)

-- one item or more, with a comma between two; an item is a text
pub data IsItems : List TokenKind → Type 0 where
  last_item : {text : TokenKind} → IsText text → IsItems (text ∷ [])
  item_before : {text : TokenKind} {items : List TokenKind} → IsText text → IsItems items → IsItems (text ∷ Comma ∷ items)

-- a value: a text, pairs in round brackets, or items or none in square ones
pub data IsValue : List TokenKind → Type 0 where
  simple : {text : TokenKind} → IsText text → IsValue (text ∷ [])
  complex : {pairs : List TokenKind} → IsPairs pairs → IsValue (Open ∷ (pairs ++ Close ∷ []))
  empty_list : IsValue (ListOpen ∷ ListClose ∷ [])
  list : {items : List TokenKind} → IsItems items → IsValue (ListOpen ∷ (items ++ ListClose ∷ []))

-- some value begins with these kinds
abbrev pub BeginsValue : List TokenKind → Type 0
BeginsValue kinds = (rest : List TokenKind) × IsValue (kinds ++ rest)

abbrev pub kinds : List Token → List TokenKind
kinds ts = map (λ t. t.kind) ts

-- tokens stop being a value at the place of a token: those before it begin a value, and with it they begin none
pub record StopsAtToken (ts : List Token) (place : ℕ) : Type 0 where
  pub before : List Token
  pub token : Token
  pub behind : List Token
  pub are : ts ≡ before ++ token ∷ behind
  pub begins : BeginsValue (kinds before)
  pub misfits : BeginsValue (kinds (before ++ token ∷ [])) → ⊥
  pub there : place ≡ token.start

-- they stop at the end of their line: they begin a value, and are none
pub record StopsAtEnd (end : ℕ) (ts : List Token) (place : ℕ) : Type 0 where
  pub begins : BeginsValue (kinds ts)
  pub lacks : IsValue (kinds ts) → ⊥
  pub there : place ≡ end

-- where tokens of a line that ends there stop being a value
abbrev pub StopsAt : ℕ → List Token → ℕ → Type 0
StopsAt end ts place = StopsAtToken ts place ⊎ StopsAtEnd end ts place
