-- Whether all of a product has come: the last byte of the main header, and of the size D that it declares (01, row 17: "finished short of 3,307 or of
-- D"). Assumes nothing.
use Rattle.std.specs.Prelude.{◌≡◌, ℕ, ◌<◌, ◌≤◌, ◌⊎◌, List, length}
use Rattle.mphr.specs.Table.{declared}
use Rattle.judge.specs.Table.{Site, first, Leads, Clean, Given}
use Rattle.std.specs.declared.option.Option.TheVariants.{Some, None}
use Rattle.std.specs.declared.result.Result.TheVariants.{Ok, Err}
use Rattle.std.specs.declared.option.Option.{Option}
use Rattle.std.specs.declared.result.Result.{Result}
use Rattle.calendar.specs.declared.Refusal.{Refusal}

-- it is short of 3,307 or of D
abbrev pub Short : List ℕ → Type 0
Short a = (length a < 3307) ⊎ (length a < declared a)

-- no fault is shown, and the last byte of the main header and of D has come
pub record Complete (a : List ℕ) : Type 0 where
  pub clean : Clean a
  pub header : 3307 ≤ length a
  pub come : declared a ≤ length a

-- c records, with the main header, go from the product's first byte to its last
pub record Covered (a : List ℕ) (c : ℕ) : Type 0 where
  pub last : Site
  pub way : Leads a first last
  pub ends : last.at ≡ declared a
  pub counted : last.count ≡ c

abbrev pub ExtentIs : List ℕ → Result (Option ℕ) Refusal → Type 0
ExtentIs a (Ok None) = Clean a × Short a
ExtentIs a (Ok (Some c)) = Complete a × Covered a c
ExtentIs a (Err r) = Given a r.number r.place
