-- What a record query says of an accepted product: the starts in its rows. Those that the finished judge wrote are those of the records by number,
-- and so are those that the query finds. Assumes nothing.
use Prim.Native.Nat.{ℕ, zero, suc, ◌<◌}
use native.Mathlib.Omega.{arith}
use mathlib.Core.Path.{◌≡◌, refl}
use mathlib.Core.Logic.{inl, inr}
use mathlib.Core.List.{List, []}
use lib.ListN.{get_or}
use Rattle.record.specs.Header.{header_at}
use Rattle.judge.specs.Table.{Open}
use Rattle.finish.specs.Rows.{start_of}
use Rattle.finish.specs.Finish.{FinishedIs}
use Rattle.std.specs.declared.result.Result.TheVariants.{Ok}
use Rattle.std.specs.declared.result.Result.{Result}
use Rattle.calendar.specs.declared.Refusal.{Refusal}
use Rattle.query.specs.declared.Record.{Record}
use Rattle.query.specs.Found.{record_found}
use Rattle.demands.specs.Demands.{start}
use Rattle.query.specs.Query.{StartOf, RecordIs}
use Rattle.demands.proofs.Counting.{later, ends_whole, indexed}
use Rattle.query.proofs.QueryDetermined.{unique_record_at}

-- record k starts where `start` says
pub started : {a : List ℕ} {c e : ℕ} → Open a c e → (k : ℕ) → k < c → StartOf a k (start a k)
unfolding start
started o zero h = inl (refl, refl)
started o (suc k) h = let n = (later o (suc k) (omega arith) h).1 in inr (record { spot = n.spot; way = n.way; numbered = n.numbered; begins = n.begins })

-- where row k says
abbrev row_start : List (List ℕ) → ℕ → ℕ
row_start rows k = start_of (get_or rows k [])

pub query_says :
    {a : List ℕ} {rows rows' : List (List ℕ)} {c : ℕ} → FinishedIs a rows (Ok c) rows' → (k : ℕ) → k < c → (r : Result Record Refusal) → RecordIs a k r
    → r ≡ record_found (row_start rows' k) (header_at a (row_start rows' k))
query_says {a} {rows' = rows'} {c = c} f k h r q =
    let v = f.filled.covered in
    let o = ends_whole f.complete v in
    unique_record_at a k r (record_found (row_start rows' k) (header_at a (row_start rows' k))) q
    (record { count = c; end = v.last.at; waiting = o; below = h; start = rw (indexed f.complete f.filled k h) (started o k h); header = refl })
