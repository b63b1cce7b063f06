-- WHAT IS RIGHT TO SAY OF AN ARRIVAL, AS A FUNCTION of its bytes: the table of faults (judge, specs/Table.antt) as a list of rows, test by test, the best of
-- those that are shown, and the walk where none is. proofs/Right.antt: it is right for every list of numbers, and nothing else is. So the prover can
-- compute it on arrivals of an independent reading (proofs/Vectors.antt). Assumes nothing.
use Rattle.std.specs.Prelude.{ℕ, zero, suc, ◌+◌, Bool, true, false, cond, not, ◌&&◌, ◌||◌, List, [], ◌∷◌, ◌++◌, eqb, leb, ltb, length, get_or}
use Rattle.std.proofs.Math.Option.{Option, none, some}
use Rattle.calendar.specs.Said.{refusing}
use Rattle.tables.specs.Table.{Row, fault}
use Rattle.record.specs.Header.{is_class, is_group}
use Rattle.record.specs.Follow.{may_follow}
use Rattle.record.specs.Times.{timed_at}
use Rattle.mphr.specs.Layout.{line_start}
use Rattle.mphr.specs.Table.{headed, timed, framed, valued, declared, total, sum}
use Rattle.judge.specs.Table.{Site, first, next, class_at, kind_at, size_at, aim_class, aim_at, offset_at}
use Rattle.judge.specs.declared.arrival.Arrival.{Arrival}
use Rattle.judge.specs.declared.arrival.Arrival.TheVariants.{Waiting, Refused}

-- ---- LISTS OF ROWS
-- a row where the test holds
abbrev pub when : Bool → Row → List Row
when true r = r ∷ []
when false r = []

-- the rows of each
abbrev pub each : {A : Type 0} → (A → List Row) → List A → List Row
each f [] = []
each f (x ∷ l) = f x ++ each f l

-- ---- THE MAIN HEADER
-- of the first n lines, rows 2 and 3
abbrev pub line_rows : List ℕ → ℕ → List Row
line_rows a zero = []
line_rows a (suc k) = when (not (framed a k)) (fault 2 (line_start k) (line_start (suc k))) ++ (when (not (valued a k)) (fault 3 (line_start k + 32) (line_start (suc k))) ++ line_rows a k)

-- the first n of the totals are numbers
abbrev pub counted : List ℕ → ℕ → Bool
counted a zero = true
counted a (suc j) = valued a (55 + j) && counted a j

abbrev pub sums_up : List ℕ → Bool
sums_up a = eqb (total a 1) 1 && (leb (total a 2) 1 && eqb (total a 0) (sum a 8))

unfoldable pub main_rows : List ℕ → List Row
main_rows a =
    when (not (headed a)) (fault 1 0 20)
    ++ (line_rows a 72
    ++ (when (valued a 28 && (ltb (declared a) 3307 || ltb 2147483647 (declared a))) (fault 4 1485 1497)
    ++ (when (counted a 9 && not (sums_up a)) (fault 5 2675 2994) ++ when (not (timed a)) (fault 10 0 20))))

-- none of 1 to 5
abbrev pub all_over5 : List Row → Bool
all_over5 [] = true
all_over5 (r ∷ l) = ltb 5 r.number && all_over5 l

-- ---- THE RECORDS
unfoldable pub is_sound : List ℕ → ℕ → Bool
is_sound a i = (leb (i + 20) (declared a) && leb 20 (size_at a i)) && (leb (i + size_at a i) (declared a) && (not (eqb (class_at a i) 3) || eqb (size_at a i) 27))

unfoldable pub is_target : List ℕ → ℕ → Bool
is_target a i = (leb 4 (aim_class a i) && leb (aim_class a i) 8) && (leb (i + 27) (offset_at a i) && leb (offset_at a i + 20) (declared a))

-- x and those after it, n at most
abbrev pub sites : ℕ → List ℕ → Site → List Site
sites zero a x = []
sites (suc n) a x = x ∷ cond (is_sound a x.at) (sites n a (next a x)) []

-- the pointer at q, which is before the header at x
abbrev pub aims_from : List ℕ → Site → Site → Bool
aims_from a x q = (is_sound a q.at && (eqb (class_at a q.at) 3 && is_target a q.at)) && (leb (x.at + 20) (declared a) && ltb q.at x.at)

-- rows 13 and 14 of the pointer at q and the record at x
abbrev pub pointer_rows : List ℕ → Site → Site → List Row
pointer_rows a x q =
    when (aims_from a x q && (ltb x.at (offset_at a q.at) && ltb (offset_at a q.at) (x.at + size_at a x.at))) (fault 13 q.at (x.at + 20))
    ++ when (aims_from a x q && (eqb (offset_at a q.at) x.at && not (eqb (aim_at a q.at) (kind_at a x.at)))) (fault 14 q.at (x.at + 20))

-- one of the classes 1 to n has fewer records than its total
abbrev pub fewer : List ℕ → List ℕ → ℕ → Bool
fewer a t zero = false
fewer a t (suc c) = ltb (get_or t (suc c) 0) (total a (suc c)) || fewer a t c

-- rows 6 to 15 at x, where the records are at the sites l
unfoldable pub record_rows : List ℕ → List Site → Site → List Row
record_rows a l x =
    let i = x.at in
    let head = leb (i + 20) (declared a) in
    let known = is_class (class_at a i) in
    when (ltb i (declared a) && ltb (declared a) (i + 20)) (fault 6 i i)
    ++ (when (head && not (known && is_group (get_or a (i + 1) 0))) (fault 7 i (i + 20))
    ++ (when (head && (is_class x.prev && (known && not (may_follow x.prev (class_at a i))))) (fault 8 i (i + 20))
    ++ (when (head && not (is_sound a i)) (fault 9 i (i + 20))
    ++ (when (head && not (timed_at a i)) (fault 10 i (i + 20))
    ++ (when (head && (known && ltb (total a (class_at a i)) (get_or x.tally (class_at a i) 0 + 1))) (fault 11 i (i + 20))
    ++ (when (is_sound a i && (eqb (class_at a i) 3 && not (is_target a i))) (fault 12 i (i + 27))
    ++ (when (eqb i (declared a) && fewer a x.tally 8) (fault 15 i i) ++ each (pointer_rows a x) l)))))))

-- ---- ALL THE ROWS. No more sites are looked at than there are bytes: what is further on is not shown
abbrev pub sites_of : List ℕ → List Site
sites_of a = sites (length a) a first

-- where the main header's are m
abbrev pub rows_with : List Row → List ℕ → List Row
rows_with m a = let l = sites_of a in m ++ cond (all_over5 m) (fault 16 (declared a) (declared a + 1) ∷ each (record_rows a l) l) []

unfoldable pub rows_of : List ℕ → List Row
rows_of a = rows_with (main_rows a) a

-- ---- THE BEST of those that are shown by n bytes: "the one shown earliest is given, then the lowest number, then the lowest place"
abbrev pub is_before : Row → Row → Bool
is_before r s = ltb r.shown s.shown || (eqb r.shown s.shown && (ltb r.number s.number || (eqb r.number s.number && leb r.place s.place)))

abbrev pub better : Row → Option Row → Option Row
better r none = some r
better r (some s) = cond (is_before r s) (some r) (some s)

abbrev pub best : ℕ → List Row → Option Row
best n [] = none
best n (r ∷ l) = cond (leb r.shown n) (better r (best n l)) (best n l)

-- ---- WHAT IS WHOLE: the site after the last record that has come
abbrev pub last_site : ℕ → List ℕ → Site → Site
last_site zero a x = x
last_site (suc n) a x = cond (is_sound a x.at && leb (x.at + size_at a x.at) (length a)) (last_site n a (next a x)) x

abbrev pub waiting_at : Site → Arrival
waiting_at x = Waiting x.count x.at

abbrev pub said : List ℕ → Option Row → Arrival
said a (some r) = Refused (refusing r.number r.place)
said a none = cond (ltb (length a) 3307) (Waiting 0 0) (waiting_at (last_site (length a) a first))

-- THE ANSWER
unfoldable pub arrival_of : List ℕ → Arrival
arrival_of a = said a (best (length a) (rows_of a))
