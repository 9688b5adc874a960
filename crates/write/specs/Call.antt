-- What solving and writing leaves: the values, and a certificate that the check accepts. Assumes nothing.
use Rattle.std.specs.Prelude.{◌≡◌, List, ◌++◌, ℕ, ◌≤◌, ◌<◌, length, take, drop, ℤ}
use Rattle.std.proofs.Math.Path.{refl}
use Rattle.std.proofs.Common.{ap, ◌∙◌, arith, length-append, length-take, take_at}
use Rattle.model.specs.Calls.{input_item}
use Rattle.model.specs.Certificate.{certificate_length, partner_at, record_at, weight_in, mapping_in, value_in, check_of}
use Rattle.model.specs.Order.{subproblems}
use Rattle.model.specs.Tree.{count}
use Rattle.model.specs.Mapping.{Heaviest}
use Rattle.model.specs.Values.{values, value_at, answer}
use Rattle.formats.specs.Inputs.{input_accepted}
use Rattle.subtrees.proofs.Filling.{values_long}
use Rattle.certificate.specs.Length.{length_closed, record_inside}
use Rattle.certificate.specs.Sound.{certificate_sound}
use Rattle.one_call.specs.Call.{Solved}
use Rattle.duals.specs.Left.{RecordLeft, FrontLeft}
use Rattle.duals.specs.Fits.{work_at}
use Rattle.duals.specs.Accepted.{left_accepted}
use Rattle.put.specs.Kept.{Kept, kept_then, kept_alike, kept_rest, take_alike, alike_part}
use Rattle.put.specs.Front.{FrontPut}
use Rattle.write.specs.Frames.{front_left, front_weighs, front_same, record_same}
use Rattle.write.specs.Records.{Full, RecordsLeft, record_first}

-- the work numbers are the values; the front of the buffer is a certificate that the check accepts, with the values, the answer's weight and a heaviest
-- mapping in it
pub record Left (table r f : List ℕ) (work : List ℤ) (z : List ℕ) (work' : List ℤ) (z' : List ℕ) : Type 0 where
  pub filled : work' ≡ values table r f ++ drop (subproblems r f) work
  pub rest : z' ≡ take (certificate_length r f) z' ++ drop (certificate_length r f) z
  pub accepted : check_of table r f (take (certificate_length r f) z') ≡ 0
  pub values_in : (k : ℕ) → k < subproblems r f → value_in r f (take (certificate_length r f) z') k ≡ value_at table r f k
  pub weight_in_lem : weight_in (take (certificate_length r f) z') ≡ answer table r f
  pub heaviest_in : Heaviest table r f (mapping_in r (take (certificate_length r f) z'))

-- solved work numbers hold the values
pub solved_full : {table r f : List ℕ} {work : List ℤ} {m : List ℕ} {work' : List ℤ} {m' : List ℕ} {w : ℤ} → input_item table r f ≡ 0 → Solved table r f work m work' m' w → Full table r f work'
solved_full {table} {r} {f} {work} passes S =
    let v : length (values table r f) ≡ subproblems r f = values_long table r f (input_accepted table r f passes) in
    record { enough = rw S.filled (simp length-append (omega arith)); filled = ap (λ (y : List ℤ). take (subproblems r f) y) S.filled ∙ take_at (values table r f) (drop (subproblems r f) work) (subproblems r f) v }

-- there is room for the front
pub front_room : (table r f : List ℕ) → input_item table r f ≡ 0 → partner_at (count r) ≤ certificate_length r f
front_room table r f passes = rw (length_closed table r f passes) at (record_first r f (subproblems r f))

module _ {table r f : List ℕ} {work : List ℤ} {m : List ℕ} {work' : List ℤ} {m' : List ℕ} {w : ℤ} {z y z' : List ℕ} (passes : input_item table r f ≡ 0)
    (S : Solved table r f work m work' m' w) (F : FrontPut (count r) (count f) w m' z y) (full : Full table r f work') (R : RecordsLeft table r f work' 0 (subproblems r f) y z')
    (room : certificate_length r f ≤ length z) where
  end : record_at r f (subproblems r f) ≡ certificate_length r f
  end = length_closed table r f passes

  start : record_at r f 0 ≡ partner_at (count r)
  start = unfold record_at in refl

  -- a mapping of the recorded vertices lies in the array
  enough : count r ≤ length m'
  enough = let e = S.heaviest.mapping.long in omega (arith, simp length-take at e)

  ahead : partner_at (count r) ≤ certificate_length r f
  ahead = front_room table r f passes

  kept : Kept 0 (certificate_length r f) z z'
  kept = rw (← end) (kept_then (omega arith) (record_first r f (subproblems r f)) F.kept (rw start at R.kept))

  front : FrontLeft r f (take (certificate_length r f) z') m' (answer table r f)
  front =
      let a : FrontLeft r f y m' (answer table r f) = front_weighs S.answered (front_left F) in
      let b : FrontLeft r f z' m' (answer table r f) = front_same (kept_alike (rw start at R.kept) (omega arith)) a in
      front_same (alike_part (omega arith) ahead (take_alike 0 (certificate_length r f) z')) b

  records : (k : ℕ) → k < subproblems r f → RecordLeft table r f work' (take (certificate_length r f) z') k
  records k h = record_same (alike_part (omega arith) (record_inside table r f passes k h) (take_alike 0 (certificate_length r f) z')) (R.left k (omega arith) h)

  long : length (take (certificate_length r f) z') ≡ certificate_length r f
  long = let e = kept.size in simp length-take (omega arith)

  accepted : check_of table r f (take (certificate_length r f) z') ≡ 0
  accepted = left_accepted table r f passes work' full.filled m' (take (certificate_length r f) z') S.heaviest S.exact enough long front records

  value_in_lem : (k : ℕ) → k < subproblems r f → value_in r f (take (certificate_length r f) z') k ≡ value_at table r f k
  unfolding value_at
  value_in_lem k h = (records k h).value ∙ work_at table r f passes work' full.filled k h

  pub written_left : Left table r f work z work' z'
  written_left =
      record {
        filled = S.filled;
        rest = kept_rest kept;
        accepted = accepted;
        values_in = value_in_lem;
        weight_in_lem = front.weighs;
        heaviest_in = (certificate_sound table r f (take (certificate_length r f) z') accepted).0;
      }
