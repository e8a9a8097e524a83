-- The bytes of commands, part by part.
use Rattle.std.proofs.Common.{◌≡◌, ◌≢◌, ℕ, zero, suc, ◌+◌, ◌^◌, ◌<◌, ◌≤◌, ℤ, pos, negsuc, true, List, [], ◌∷◌, ◌++◌, length, take, drop, refl, sym, ◌∙◌, ap, arith, append_assoc, append-nil, length-append}
use Rattle.std.specs.Prelude.{unsigned_abs, nat_le}
use Rattle.std.specs.Int.{w16, w32, w64, to_le_bytes, from_le_bytes}
use Rattle.std.specs.List.{list_all}
use Rattle.std.specs.Char.{is_ascii_lowercase}
use Rattle.std.proofs.Math.Seq.{drop-append_seam}
use Rattle.std.proofs.lemmas.List.{take_at}
use Rattle.std.proofs.lemmas.Bool.{and_parts, leb-true}
use Rattle.std.proofs.lemmas.Int.{ints}
use Rattle.std.proofs.lemmas.Nat.{from_le_bytes-to_le_bytes_2, from_le_bytes-to_le_bytes_8}
use Rattle.policy_checks.specs.Checks.{is_name, may_follow_in_name}
use Rattle.recorded_calls.specs.declared.command.CallKind.{CallKind}
use Rattle.recorded_calls.specs.declared.command.CallKind.TheVariants.{CreateInvocation, UpdateInvocation, FinalizeInvocation, UpdateIncludedInvocations, BatchCreateTestResults, BatchCreateTestExonerations, BatchCreateArtifacts}
use Rattle.recorded_calls.specs.Commands.{CallSaid, IsCallMoment, IsCallSayable, IsCommand, IsSayable, Said, body_bytes, called, command_bytes, kind_byte, length_said, moment_bytes, name_bytes, ticked}
use Rattle.recorded_calls.specs.Laws.{LengthsAreSaid, OneCommand, WrittenIsRead}

-- lists with fronts of one length are equal in both parts
fronts : (a b c d : List ℕ) → length a ≡ length c → a ++ b ≡ c ++ d → (a ≡ c) × (b ≡ d)
fronts a b c d same e = (
  sym (take_at a b (length a) refl) ∙ ap (take (length a)) e ∙ take_at c d (length a) (sym same),
  sym (drop-append_seam a b) ∙ ap (drop (length a)) e ∙ ap (λ (n : ℕ). drop n (c ++ d)) same ∙ drop-append_seam c d,
)

-- ---- moments

counted : (m : ℤ) → IsCallMoment m → m ≡ pos (unsigned_abs m)
counted (pos n) is = refl
counted (negsuc n) is = absurd (omega (arith, ints, is.0))

small : (m : ℤ) → IsCallMoment m → unsigned_abs m < 2 ^ 64
small (pos n) is = omega (arith, ints, is.1)
small (negsuc n) is = absurd (omega (arith, ints, is.0))

same_moment : (m k : ℤ) → IsCallMoment m → IsCallMoment k → moment_bytes m ≡ moment_bytes k → m ≡ k
same_moment m k is_m is_k e =
    let sizes : unsigned_abs m ≡ unsigned_abs k =
    sym (from_le_bytes-to_le_bytes_8 (unsigned_abs m) (small m is_m))
    ∙ ap (from_le_bytes w64) e
    ∙ from_le_bytes-to_le_bytes_8 (unsigned_abs k) (small k is_k) in
    counted m is_m ∙ ap pos sizes ∙ sym (counted k is_k)

pub one_moment : (m k : ℤ) (r q : List ℕ) → IsCallMoment m → IsCallMoment k → moment_bytes m ++ r ≡ moment_bytes k ++ q
    → (m ≡ k) × (r ≡ q)
one_moment m k r q is_m is_k e =
    let parts = fronts (moment_bytes m) r (moment_bytes k) q refl e in
    (same_moment m k is_m is_k parts.0, parts.1)

-- ---- names and bodies

pub short_name : (name : List ℕ) → is_name name ≡ true → length name ≤ 64
short_name [] is = omega arith
short_name (b ∷ bs) is =
    let outer = and_parts _ (list_all may_follow_in_name bs) is in
    let inner = and_parts (is_ascii_lowercase b) (nat_le (length bs) 63) outer.0 in
    let few = leb-true (length bs) 63 inner.1 in
    omega (arith, few)

one_name : (n m r q : List ℕ) → length n ≤ 64 → length m ≤ 64 → name_bytes n ++ r ≡ name_bytes m ++ q → (n ≡ m) × (r ≡ q)
one_name n m r q few_n few_m e =
    let whole : to_le_bytes w16 (length n) ++ (n ++ r) ≡ to_le_bytes w16 (length m) ++ (m ++ q) =
    sym (append_assoc (to_le_bytes w16 (length n)) n r) ∙ e ∙ append_assoc (to_le_bytes w16 (length m)) m q in
    let parts = fronts (to_le_bytes w16 (length n)) (n ++ r) (to_le_bytes w16 (length m)) (m ++ q) refl whole in
    let lengths : length n ≡ length m =
    sym (from_le_bytes-to_le_bytes_2 (length n) (omega (arith, few_n)))
    ∙ ap (from_le_bytes w16) parts.0
    ∙ from_le_bytes-to_le_bytes_2 (length m) (omega (arith, few_m)) in
    fronts n r m q lengths parts.1

one_body : (b c : List ℕ) → body_bytes b ≡ body_bytes c → b ≡ c
one_body b c e = (fronts (to_le_bytes w32 (length b)) b (to_le_bytes w32 (length c)) c refl e).1

-- ---- kinds

kind_from : ℕ → CallKind
kind_from (suc zero) = CreateInvocation
kind_from (suc (suc zero)) = UpdateInvocation
kind_from (suc (suc (suc zero))) = FinalizeInvocation
kind_from (suc (suc (suc (suc zero)))) = UpdateIncludedInvocations
kind_from (suc (suc (suc (suc (suc zero))))) = BatchCreateTestResults
kind_from (suc (suc (suc (suc (suc (suc zero)))))) = BatchCreateTestExonerations
kind_from n = BatchCreateArtifacts

kind_back : (kind : CallKind) → kind_from (kind_byte kind) ≡ kind
unfolding kind_from
kind_back CreateInvocation = refl
kind_back UpdateInvocation = refl
kind_back FinalizeInvocation = refl
kind_back UpdateIncludedInvocations = refl
kind_back BatchCreateTestResults = refl
kind_back BatchCreateTestExonerations = refl
kind_back BatchCreateArtifacts = refl

one_kind : (kind other : CallKind) → kind_byte kind ≡ kind_byte other → kind ≡ other
one_kind kind other e = sym (kind_back kind) ∙ ap kind_from e ∙ kind_back other

never_tick : (kind : CallKind) → kind_byte kind ≡ 0 → ⊥
never_tick CreateInvocation e = omega (arith, e)
never_tick UpdateInvocation e = omega (arith, e)
never_tick FinalizeInvocation e = omega (arith, e)
never_tick UpdateIncludedInvocations e = omega (arith, e)
never_tick BatchCreateTestResults e = omega (arith, e)
never_tick BatchCreateTestExonerations e = omega (arith, e)
never_tick BatchCreateArtifacts e = omega (arith, e)

-- ---- the three parts of a command: its first byte, its moment, and the rest

abbrev first_of : Said → ℕ
first_of (ticked moment) = 0
first_of (called call) = kind_byte call.kind

abbrev moment_said : Said → ℤ
moment_said (ticked moment) = moment
moment_said (called call) = call.moment

abbrev rest_of : Said → List ℕ
rest_of (ticked moment) = []
rest_of (called call) = name_bytes call.caller ++ body_bytes call.body

parted : (said : Said) → command_bytes said ≡ first_of said ∷ (moment_bytes (moment_said said) ++ rest_of said)
parted (ticked moment) = ap (λ (l : List ℕ). 0 ∷ l) (sym (append-nil (moment_bytes moment)))
parted (called call) = refl

timed : (said : Said) → IsSayable said → IsCallMoment (moment_said said)
timed (ticked moment) is = is
timed (called call) is = is.moment

-- what a command says where its bytes begin so
record Begins (said : Said) (byte : ℕ) (moment : ℤ) (rest : List ℕ) : Type 0 where
  first : first_of said ≡ byte
  moment_is : moment_said said ≡ moment
  rest_is : rest_of said ≡ rest

begins : (said : Said) (byte : ℕ) (moment : ℤ) (rest bytes : List ℕ) → bytes ≡ byte ∷ (moment_bytes moment ++ rest) → IsCallMoment moment
    → IsCommand bytes said → Begins said byte moment rest
begins said byte moment rest bytes form is command =
    let e : first_of said ∷ (moment_bytes (moment_said said) ++ rest_of said) ≡ byte ∷ (moment_bytes moment ++ rest) =
    sym (parted said) ∙ (sym command.form ∙ form) in
    let heads : first_of said ≡ byte = cc in
    let tails : moment_bytes (moment_said said) ++ rest_of said ≡ moment_bytes moment ++ rest = cc in
    let parts = one_moment (moment_said said) moment (rest_of said) rest (timed said command.sayable) is tails in
    record { first = heads; moment_is = parts.0; rest_is = parts.1 }

-- ---- bytes that are no command

-- what stands behind a name is no body
pub never_body : (bytes name rest : List ℕ) → bytes ≡ name_bytes name ++ rest → is_name name ≡ true
    → ((body : List ℕ) → length body < 2 ^ 32 → rest ≡ body_bytes body → ⊥)
    → (call : CallSaid) → IsCallSayable call → bytes ≡ name_bytes call.caller ++ body_bytes call.body → ⊥
never_body bytes name rest form is none call sayable e =
    let parts = one_name name call.caller rest (body_bytes call.body) (short_name name is) (short_name call.caller sayable.caller) (sym form ∙ e) in
    none call.body sayable.body parts.1

-- what stands behind a length has not the form of a name
pub never_named : (bytes content rest : List ℕ) (size : List ℕ) → bytes ≡ size ++ (content ++ rest) → size ≡ to_le_bytes w16 (length content)
    → is_name content ≢ true → length content < 2 ^ 16 → (name after : List ℕ) → is_name name ≡ true → bytes ≡ name_bytes name ++ after → ⊥
never_named bytes content rest size form size_is unlike few name after is e =
    let whole : to_le_bytes w16 (length content) ++ (content ++ rest) ≡ to_le_bytes w16 (length name) ++ (name ++ after) =
    ap (λ (l : List ℕ). l ++ (content ++ rest)) (sym size_is) ∙ (sym form ∙ (e ∙ append_assoc (to_le_bytes w16 (length name)) name after)) in
    let parts = fronts (to_le_bytes w16 (length content)) (content ++ rest) (to_le_bytes w16 (length name)) (name ++ after) refl whole in
    let small_name = short_name name is in
    let lengths : length content ≡ length name =
    sym (from_le_bytes-to_le_bytes_2 (length content) few)
    ∙ ap (from_le_bytes w16) parts.0
    ∙ from_le_bytes-to_le_bytes_2 (length name) (omega (arith, small_name)) in
    unlike (ap is_name ((fronts content rest name after lengths parts.1).0) ∙ is)

-- ---- one command

same_said : (said other : Said) → IsSayable other → Begins said (first_of other) (moment_said other) (rest_of other) → IsSayable said
    → said ≡ other
same_said (ticked m) (ticked k) is b sayable = ap ticked b.moment_is
same_said (ticked m) (called call) is b sayable = absurd (never_tick call.kind (sym b.first))
same_said (called call) (ticked k) is b sayable = absurd (never_tick call.kind b.first)
same_said (called call) (called other) is b sayable =
    let kinds = one_kind call.kind other.kind b.first in
    let names = one_name call.caller other.caller (body_bytes call.body) (body_bytes other.body) (short_name call.caller sayable.caller)
    (short_name other.caller is.caller) b.rest_is in
    let bodies = one_body call.body other.body names.1 in
    let Of : CallKind → ℤ → List ℕ → List ℕ → Said = λ kind moment caller body.
    called (record { kind = kind; moment = moment; caller = caller; body = body }) in
    ap (λ (k : CallKind). Of k call.moment call.caller call.body) kinds
    ∙ (ap (λ (m : ℤ). Of other.kind m call.caller call.body) b.moment_is
    ∙ (ap (λ (n : List ℕ). Of other.kind other.moment n call.body) names.0
    ∙ ap (Of other.kind other.moment other.caller) bodies))

pub one_command : OneCommand
one_command bytes said other is also =
    same_said said other also.sayable
    (begins said (first_of other) (moment_said other) (rest_of other) bytes (also.form ∙ parted other) (timed other also.sayable) is) is.sayable

pub written_is_read : WrittenIsRead
written_is_read said is =
    let here : IsCommand (command_bytes said) said = record { sayable = is; form = refl } in
    (here, λ other command. one_command (command_bytes said) other said command here)

-- how long a call's command is
pub length_called : (call : CallSaid) → length (command_bytes (called call)) ≡ 15 + (length call.caller + length call.body)
length_called call = omega (arith, length-append call.caller (body_bytes call.body))

pub lengths_are_said : LengthsAreSaid
lengths_are_said (ticked moment) = refl
lengths_are_said (called call) = omega (arith, length_called call)
