-- What the run of these instances is made of: its plan; the byte 7, saved at time 1; the byte 9, of which a liar makes a sound record of time 2.
--   plan               N5 t1 b1 Q3 m1 F1, repairable, Byzantine clients, W 3: R = 201, a round waits for 4 replies, COMPLETE 4, INCOMPLETE 2
--   sheet lie          the record of 7, one for all nodes, and that of 9
--   hash_so cross_so verifier_so lie_hash_so lie_verifier_so   the four hashes, computed
--   sheet_passes lie_passes   the hash checks of both records
--   desk_full written_so stamped_so   the desk and the timestamp that our writer makes of the byte 7 at time 1
-- Assumes nothing.
use Prim.Native.Nat.{ℕ, zero, suc, ◌<◌}
use mathlib.Core.Path.{◌≡◌, refl, ap, ◌∙◌}
use mathlib.Core.Bool.{true}
use mathlib.Core.List.{List, [], ◌∷◌, ◌++◌}
use native.Mathlib.Omega.{arith}
use Rattle.octets.specs.Bytes.{part, be, be_onto, alike}
use Rattle.sha256.specs.Sha256 as sha
use Rattle.sha256.specs.Sha256.{sha256, compress_of, added_of, rounds_of, round_of, T1, T2, schedule_of, words, padding, big_endian, K}
use Rattle.terms.specs.Ladder.{◌and◌}
use Rattle.terms.specs.Stamp.{stamp_at}
use Rattle.terms.specs.declared.Plan.{Plan}
use Rattle.terms.specs.declared.Timestamp.{Timestamp}
use Rattle.terms.specs.declared.Member.TheVariants.{Repairable}
use Rattle.terms.specs.declared.Clients.TheVariants.{Byzantine}
use Rattle.field.specs.Field.{xtime, mul_n, mul}
use Rattle.fragments.specs.Fragments.{from, fragment, tabulate, ratio, weight_of, blend, value}
use Rattle.record.specs.Record.{prefix_of, fragment_hash, hashes_ok, verifier_of, entry_of, cross_of}
use Rattle.record.specs.Desk.{row, cross_made, desk_of, stamp_made}
use Rattle.recover.specs.Records.{cross_for, stamp_for, records_for}

abbrev pub plan : Plan
plan = record { n = 5; t = 1; b = 1; q = 3; m = 1; f = 1; member = Repairable; clients = Byzantine; w = 3 }

pub by_node : (P : ℕ → Type 0) → P 0 → P 1 → P 2 → P 3 → P 4 → (k : ℕ) → k < 5 → P k
by_node P a b c d e zero l = a
by_node P a b c d e (suc zero) l = b
by_node P a b c d e (suc (suc zero)) l = c
by_node P a b c d e (suc (suc (suc zero))) l = d
by_node P a b c d e (suc (suc (suc (suc zero)))) l = e
by_node P a b c d e (suc (suc (suc (suc (suc k))))) l = absurd (omega arith)

-- ---- the byte 7: the hash of a fragment, the cross checksum, its hash
unfoldable pub hash : List ℕ
hash = 202 ∷ 53 ∷ 135 ∷ 88 ∷ 246 ∷ 210 ∷ 126 ∷ 108 ∷ 244 ∷ 82 ∷ 114 ∷ 147 ∷ 121 ∷ 119 ∷ 167 ∷ 72 ∷ 253 ∷ 136 ∷ 57 ∷ 29 ∷ 182 ∷ 121 ∷ 206 ∷ 218 ∷ 125 ∷ 199 ∷ 191 ∷ 31 ∷ 0 ∷ 94 ∷ 232 ∷ 121 ∷ []

unfoldable pub cross : List ℕ
cross = hash ++ (hash ++ (hash ++ (hash ++ hash)))

unfoldable pub verifier : List ℕ
verifier = 173 ∷ 161 ∷ 252 ∷ 149 ∷ 232 ∷ 167 ∷ 141 ∷ 85 ∷ 155 ∷ 170 ∷ 160 ∷ 234 ∷ 56 ∷ 34 ∷ 61 ∷ 69 ∷ 118 ∷ 165 ∷ 81 ∷ 237 ∷ 253 ∷ 221 ∷ 136 ∷ 1 ∷ 144 ∷ 215 ∷ 11 ∷ 163 ∷ 244 ∷ 154 ∷ 67 ∷ 96 ∷ []

unfoldable pub stamp_bytes : List ℕ
stamp_bytes = 0 ∷ 0 ∷ 0 ∷ 0 ∷ 0 ∷ 0 ∷ 0 ∷ 1 ∷ verifier

unfoldable pub sheet : List ℕ
sheet = stamp_bytes ++ (cross ++ (7 ∷ []))

abbrev pub stamp_seven : Timestamp
stamp_seven = stamp_at stamp_bytes 0

-- ---- the byte 9
unfoldable pub lie_hash : List ℕ
lie_hash = 43 ∷ 76 ∷ 52 ∷ 47 ∷ 84 ∷ 51 ∷ 235 ∷ 229 ∷ 145 ∷ 161 ∷ 218 ∷ 119 ∷ 224 ∷ 19 ∷ 209 ∷ 183 ∷ 36 ∷ 117 ∷ 86 ∷ 45 ∷ 72 ∷ 87 ∷ 141 ∷ 202 ∷ 139 ∷ 132 ∷ 186 ∷ 198 ∷ 101 ∷ 28 ∷ 60 ∷ 185 ∷ []

unfoldable pub lie_cross : List ℕ
lie_cross = lie_hash ++ (lie_hash ++ (lie_hash ++ (lie_hash ++ lie_hash)))

unfoldable pub lie_verifier : List ℕ
lie_verifier = 57 ∷ 219 ∷ 97 ∷ 55 ∷ 200 ∷ 57 ∷ 41 ∷ 183 ∷ 192 ∷ 210 ∷ 92 ∷ 164 ∷ 49 ∷ 43 ∷ 21 ∷ 202 ∷ 74 ∷ 125 ∷ 57 ∷ 254 ∷ 209 ∷ 80 ∷ 74 ∷ 13 ∷ 63 ∷ 130 ∷ 182 ∷ 205 ∷ 168 ∷ 94 ∷ 248 ∷ 249 ∷ []

unfoldable pub lie_stamp : List ℕ
lie_stamp = 0 ∷ 0 ∷ 0 ∷ 0 ∷ 0 ∷ 0 ∷ 0 ∷ 2 ∷ lie_verifier

unfoldable pub lie : List ℕ
lie = lie_stamp ++ (lie_cross ++ (9 ∷ []))

abbrev pub stamp_nine : Timestamp
stamp_nine = stamp_at lie_stamp 0

-- ---- the hashes
pub hash_so : sha256 (7 ∷ []) ≡ hash
unfolding hash sha256 sha.after compress_of added_of rounds_of round_of T1 T2 schedule_of words padding big_endian K
hash_so = refl

pub verifier_so : sha256 cross ≡ verifier
unfolding cross verifier hash sha256 sha.after compress_of added_of rounds_of round_of T1 T2 schedule_of words padding big_endian K
verifier_so = refl

pub lie_hash_so : sha256 (9 ∷ []) ≡ lie_hash
unfolding lie_hash sha256 sha.after compress_of added_of rounds_of round_of T1 T2 schedule_of words padding big_endian K
lie_hash_so = refl

pub lie_verifier_so : sha256 lie_cross ≡ lie_verifier
unfolding lie_cross lie_verifier lie_hash sha256 sha.after compress_of added_of rounds_of round_of T1 T2 schedule_of words padding big_endian K
lie_verifier_so = refl

-- ---- both records pass their hash checks
sheet_at : (k : ℕ) → (alike verifier (verifier_of sheet) and alike hash (entry_of k (cross_of plan sheet))) ≡ true → hashes_ok plan k sheet ≡ true
unfolding hashes_ok fragment_hash prefix_of sheet stamp_bytes cross hash verifier part
sheet_at k e = (λ j. alike (verifier_so j) (verifier_of sheet) and alike (hash_so j) (entry_of k (cross_of plan sheet))) ∙ e

pub sheet_passes : (k : ℕ) → k < 5 → hashes_ok plan k sheet ≡ true
unfolding alike sheet stamp_bytes cross hash verifier part
sheet_passes = by_node (λ (k : ℕ). hashes_ok plan k sheet ≡ true) (sheet_at 0 refl) (sheet_at 1 refl) (sheet_at 2 refl) (sheet_at 3 refl) (sheet_at 4 refl)

pub lie_passes : hashes_ok plan 4 lie ≡ true
unfolding alike hashes_ok fragment_hash prefix_of lie lie_stamp lie_cross lie_hash lie_verifier part
lie_passes = (λ j. alike (lie_verifier_so j) (verifier_of lie) and alike (lie_hash_so j) (entry_of 4 (cross_of plan lie)))

-- ---- the records that are written
abbrev pub desk_full : List ℕ
desk_full = sheet ++ (sheet ++ (sheet ++ (sheet ++ sheet)))

pub cross_so : cross_for plan (7 ∷ []) ≡ cross
unfolding cross_for cross_made row fragment fragment_hash prefix_of cross hash part tabulate value blend weight_of ratio from xtime mul_n mul
cross_so = (λ j. row (λ (k : ℕ). hash_so j) 5)

stamp_so : stamp_made 1 cross ≡ stamp_bytes
unfolding stamp_bytes be be_onto
stamp_so = (λ j. be 8 1 ++ verifier_so j)

full_so : desk_of stamp_bytes cross (fragment 1 1 (7 ∷ [])) 5 ≡ desk_full
unfolding desk_of row fragment sheet stamp_bytes cross verifier hash part tabulate value blend weight_of ratio from xtime mul_n mul
full_so = refl

pub written_so : records_for plan 1 (7 ∷ []) ≡ desk_full
unfolding records_for
written_so =
    ap (λ (c : List ℕ). desk_of (stamp_made 1 c) c (fragment 1 1 (7 ∷ [])) 5) cross_so
    ∙ ap (λ (t : List ℕ). desk_of t cross (fragment 1 1 (7 ∷ [])) 5) stamp_so ∙ full_so

pub stamped_so : stamp_for plan 1 (7 ∷ []) ≡ stamp_seven
unfolding stamp_for
stamped_so = ap (λ (c : List ℕ). stamp_at (stamp_made 1 c) 0) cross_so ∙ ap (λ (t : List ℕ). stamp_at t 0) stamp_so
