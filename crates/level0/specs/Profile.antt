-- THE LEVEL 0 PROFILE (02, Nine: "Section 9 of source document 002 has its own header values, subclasses and versions for VIADR and MDR"), as a table:
-- class, group, least and greatest subclass, least and greatest version. Assumes nothing.
use Rattle.std.specs.Prelude.{ℕ, ◌≤◌, ◌≡◌, ◌⊎◌, true, false}
use mathlib.Core.List.{List, [], ◌∷◌, ◌++◌, Memᴰ as In}
use Rattle.judge.specs.Table.{class_at}
use Rattle.judge.specs.Profile.{is_allowed}
use Rattle.finish.specs.Rows.{group_at, subclass_at, version_at}
use Rattle.finish.specs.Finish.{RowsBy}
use Rattle.std.specs.declared.result.Result.{Result}
use Rattle.calendar.specs.declared.Refusal.{Refusal}

-- 002, Table 45: "RECORD_CLASS VIADR, INSTRUMENT_GROUP GENERIC, RECORD_SUBCLASS 0", and Table 48: VIADR-L0-OBT2UTC has versions 1 and 2.
-- Table 46: "RECORD_CLASS MDR, INSTRUMENT_GROUP GENERIC, RECORD_SUBCLASS See Table 47", which has 0 to 4, and Table 48: MDR-L0 has version 1.
-- 5.5.2: a dummy MDR, of group 13, stands where data is missing, in any product
unfoldable pub level0 : List (List ℕ)
level0 =
    (7 ∷ 0 ∷ 0 ∷ 0 ∷ 1 ∷ 2 ∷ [])
    ∷ (8 ∷ 0 ∷ 0 ∷ 4 ∷ 1 ∷ 1 ∷ [])
    ∷ (8 ∷ 13 ∷ 0 ∷ 255 ∷ 0 ∷ 255 ∷ [])
    ∷ []

-- what is right to say of a finished product of Level 0, and the rows at exit
abbrev pub Level0Is : List ℕ → List (List ℕ) → Result ℕ Refusal → List (List ℕ) → Type 0
Level0Is a rows r rows' = RowsBy level0 a rows r rows'

-- THE SAME IN WORDS, of the record at byte i
pub record OfLevel0 (a : List ℕ) (i : ℕ) : Type 0 where
  pub viadr : class_at a i ≡ 7 → (group_at a i ≡ 0) × (subclass_at a i ≡ 0) × (1 ≤ version_at a i) × (version_at a i ≤ 2)
  pub mdr : class_at a i ≡ 8 → (group_at a i ≡ 13) ⊎ ((group_at a i ≡ 0) × (subclass_at a i ≤ 4) × (version_at a i ≡ 1))

-- "29, record against the profile, place the first such record": of the records that start at the places l, those before q meet the profile p, and the one at
-- q does not
pub record Named (p : List (List ℕ)) (a l : List ℕ) (q : ℕ) : Type 0 where
  pub before : List ℕ
  pub after : List ℕ
  pub is : l ≡ before ++ (q ∷ after)
  pub met : (i : ℕ) → In i before → is_allowed p a i ≡ true
  pub unmet : is_allowed p a q ≡ false
