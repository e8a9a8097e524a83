-- The readers of a time of day, of a zone and of a moment read just the texts of their grammars.
use Rattle.std.proofs.Common.{◌≡◌, ℕ, ◌+◌, ◌*◌, ◌==◌, true, false, Bool, if◌then◌else◌, List, [], ◌∷◌, ◌++◌, length, Ok, Err, ℤ, pos, neg_ℤ, refl, sym, ap, subst, ◌∙◌, arith, append_assoc, append-nil}
use Rattle.moments_spans.specs.Moments.{two_digits, moment_at}
use Rattle.moments_spans.specs.MomentReading.{two_from, day_from, decimals_from, minutes_from, clock_from, offset_from, zone_from}
use Rattle.moments_spans.specs.MomentGrammar.{IsDecimals, IsDateText, IsHourAndMinute, IsClockText, IsZone, utc, before, behind as behind_utc, IsMomentText}
use Rattle.moments_spans.proofs.ReaderLaws.{Reader, IsRead, Breaks, Reads, Anything, by_byte, same_err, same_ok, not_both, complete_as, joined, Joined, joined_reads, behind, Behind, behind_reads, IsGiven, given_reads}
use Rattle.moments_spans.proofs.MomentReaders.{IsTwo, two_reads, day_reads, minutes_reads}
use Rattle.moments_spans.proofs.ClockReaders.{NoDecimals, decimals_reads}

-- a time of day

abbrev micros_at : ℕ → ℕ → ℕ → ℕ
micros_at minutes second fraction = (minutes * 60 + second) * 1_000_000 + fraction

abbrev Fractions : ℕ → ℕ → List ℕ → ℕ → Type 0
Fractions m s = Joined IsDecimals (λ f. IsGiven (micros_at m s f))

abbrev Seconds : ℕ → List ℕ → ℕ → Type 0
Seconds m = Joined (IsTwo 0 59) (λ s. Fractions m s)

abbrev Clocks : List ℕ → ℕ → Type 0
Clocks = Joined IsHourAndMinute (λ m. Behind 58 (Seconds m))

abbrev fraction_reader : ℕ → ℕ → Reader ℕ
fraction_reader m s = joined decimals_from (λ f rest. Ok (micros_at m s f, rest))

abbrev second_reader : ℕ → Reader ℕ
second_reader m = joined (two_from 0 59) (λ s. fraction_reader m s)

fractions_read : (m s : ℕ) → Reads (fraction_reader m s) (Fractions m s) NoDecimals
fractions_read m s =
    joined_reads decimals_from (λ f rest. Ok (micros_at m s f, rest)) IsDecimals (λ f. IsGiven (micros_at m s f)) NoDecimals NoDecimals
    decimals_reads
    (λ t f is. given_reads (micros_at m s f) NoDecimals)
    (λ f t v rest is ends. subst (λ front. NoDecimals (front ++ rest)) (sym is.none) ends)

seconds_read : (m : ℕ) → Reads (second_reader m) (Seconds m) NoDecimals
seconds_read m =
    joined_reads (two_from 0 59) (λ s. fraction_reader m s) (IsTwo 0 59) (λ s. Fractions m s) Anything NoDecimals
    (two_reads 0 59 (omega arith) (omega arith))
    (λ t s is. fractions_read m s)
    (λ s t v rest is ends. tt)

clock_said : (text : List ℕ) (micros : ℕ) → Clocks text micros → IsClockText text micros
clock_said text micros is =
    let seconds = is.second.is in
    let fractions = seconds.second in
    record {
      minutes_text = is.front;
      minutes = is.value;
      hour_and_minute = is.first;
      second = seconds.value;
      in_minute = seconds.first.range.1;
      decimals_text = fractions.front;
      fraction = fractions.value;
      decimals = fractions.first;
      spelled = is.parted ∙ ap (λ t. is.front ++ t) (is.second.parted ∙ ap (λ t. 58 ∷ t) (seconds.parted ∙ ap (λ t. t ++ seconds.rest) seconds.first.spelled
          ∙ ap (λ t. two_digits seconds.value ++ t) (fractions.parted ∙ ap (λ t. fractions.front ++ t) fractions.second.none ∙ append-nil fractions.front)));
      number = fractions.second.same;
    }

clock_parted : (text : List ℕ) (micros : ℕ) → IsClockText text micros → Clocks text micros
clock_parted text micros is = record {
  front = is.minutes_text;
  rest = 58 ∷ (two_digits is.second ++ is.decimals_text);
  value = is.minutes;
  parted = is.spelled;
  first = is.hour_and_minute;
  second = record {
    rest = two_digits is.second ++ is.decimals_text;
    parted = refl;
    is = record {
      front = two_digits is.second;
      rest = is.decimals_text;
      value = is.second;
      parted = refl;
      first = record { range = (omega arith, is.in_minute); spelled = refl };
      second = record {
        front = is.decimals_text;
        rest = [];
        value = is.fraction;
        parted = sym (append-nil is.decimals_text);
        first = is.decimals;
        second = record { none = refl; same = is.number };
      };
    };
  };
}

pub clock_reads : Reads clock_from IsClockText NoDecimals
unfolding clock_from
clock_reads =
    complete_as (joined minutes_from (λ m. behind 58 (second_reader m))) Clocks NoDecimals IsClockText
    (joined_reads minutes_from (λ m. behind 58 (second_reader m)) IsHourAndMinute (λ m. Behind 58 (Seconds m)) Anything NoDecimals
    minutes_reads
    (λ t m is. behind_reads 58 (second_reader m) (Seconds m) NoDecimals (seconds_read m))
    (λ m t v rest is ends. tt))
    clock_said clock_parted

-- a zone

abbrev signed : Bool → ℕ → ℤ
signed is_behind n = if is_behind then neg_ℤ (pos n) else pos n

abbrev Offsets : Bool → List ℕ → ℤ → Type 0
Offsets is_behind = Joined IsHourAndMinute (λ n. IsGiven (signed is_behind n))

offset_reads : (is_behind : Bool) → Reads (offset_from is_behind) (Offsets is_behind) Anything
unfolding offset_from
offset_reads is_behind =
    joined_reads minutes_from (λ n rest. Ok (signed is_behind n, rest)) IsHourAndMinute (λ n. IsGiven (signed is_behind n)) Anything Anything
    minutes_reads
    (λ t n is. given_reads (signed is_behind n) Anything)
    (λ n t v rest is ends. tt)

no_zone : zone_from [] ≡ Err 0
unfolding zone_from
no_zone = refl

zone_utc : (bs : List ℕ) → zone_from (90 ∷ bs) ≡ Ok (pos 0, bs)
unfolding zone_from
zone_utc bs = refl

zone_before : (bs : List ℕ) → zone_from (43 ∷ bs) ≡ offset_from false bs
unfolding zone_from
zone_before bs = refl

zone_behind : (bs : List ℕ) → zone_from (45 ∷ bs) ≡ offset_from true bs
unfolding zone_from
zone_behind bs = refl

zone_other : (b : ℕ) (bs : List ℕ) → (b == 90) ≡ false → (b == 43) ≡ false → (b == 45) ≡ false → zone_from (b ∷ bs) ≡ Err (length (b ∷ bs))
unfolding zone_from
zone_other b bs z plus minus = rw (z, plus, minus) refl

offset_text : (text rest : List ℕ) → text ≡ rest ++ [] → text ≡ rest
offset_text text rest e = e ∙ append-nil rest

before_said : (text : List ℕ) (v : ℤ) → Offsets false text v → IsZone (43 ∷ text) v
before_said text v is = before is.front is.value is.first (ap (λ t. 43 ∷ t) (is.parted ∙ ap (λ t. is.front ++ t) is.second.none ∙ append-nil is.front)) is.second.same

behind_said : (text : List ℕ) (v : ℤ) → Offsets true text v → IsZone (45 ∷ text) v
behind_said text v is = behind_utc is.front is.value is.first (ap (λ t. 45 ∷ t) (is.parted ∙ ap (λ t. is.front ++ t) is.second.none ∙ append-nil is.front)) is.second.same

-- an offset behind its sign
module _ (sign : ℕ) (is_behind : Bool) (is_sign : (bs : List ℕ) → zone_from (sign ∷ bs) ≡ offset_from is_behind bs) (said : (text : List ℕ) (v : ℤ) → Offsets is_behind text v → IsZone (sign ∷ text) v) where
  sign_sound : (bs rest : List ℕ) (v : ℤ) → zone_from (sign ∷ bs) ≡ Ok (v, rest) → IsRead zone_from IsZone (sign ∷ bs) rest v
  sign_sound bs rest v e =
      let one = (offset_reads is_behind).sound bs rest v (sym (is_sign bs) ∙ e) in
      record {
        front = sign ∷ one.front;
        parted = ap (λ t. sign ∷ t) one.parted;
        is = said one.front v one.is;
        keeps = λ b more_bs more at. is_sign (one.front ++ b ∷ more) ∙ one.keeps b more_bs more at;
      }

  sign_breaks : (bs : List ℕ) (left : ℕ) → zone_from (sign ∷ bs) ≡ Err left → Breaks zone_from IsZone (sign ∷ bs) left
  sign_breaks bs left e =
      let one = (offset_reads is_behind).breaks bs left (sym (is_sign bs) ∙ e) in
      record {
        front = sign ∷ one.front;
        bad = one.bad;
        parted = ap (λ t. sign ∷ t) one.parted;
        many = one.many;
        more = one.more;
        value = one.value;
        goes_on = said (one.front ++ one.more) one.value one.goes_on;
        fails = λ b more_bs other at. is_sign (one.front ++ b ∷ other) ∙ one.fails b more_bs other at;
      }

  sign_complete : (text rest : List ℕ) (n : ℕ) → IsHourAndMinute text n → zone_from (sign ∷ (text ++ rest)) ≡ Ok (signed is_behind n, rest)
  sign_complete text rest n is =
      is_sign (text ++ rest)
      ∙ (offset_reads is_behind).complete text rest (signed is_behind n)
      (record { front = text; rest = []; value = n; parted = sym (append-nil text); first = is; second = record { none = refl; same = refl } }) tt

utc_sound : (bs rest : List ℕ) (v : ℤ) → zone_from (90 ∷ bs) ≡ Ok (v, rest) → IsRead zone_from IsZone (90 ∷ bs) rest v
utc_sound bs rest v e =
    let same : (pos 0, bs) ≡ (v, rest) = same_ok _ _ _ (zone_utc bs) e in
    let number : pos 0 ≡ v = ap (λ p. p.0) same in
    record {
      front = 90 ∷ [];
      parted = ap (λ p. 90 ∷ p.1) same;
      is = utc refl (sym number);
      keeps = λ b more_bs more at. zone_utc (b ∷ more) ∙ ap (λ n. Ok (n, b ∷ more)) number;
    }

head_same : (b c : ℕ) (bs cs : List ℕ) → b ∷ bs ≡ c ∷ cs → b ≡ c
head_same b c bs cs e = cc

-- a zone begins with `Z`, `+` or `-`
by_zone : {P : Type 0} (text : List ℕ) → (text ≡ [] → P) → ((bs : List ℕ) → text ≡ 90 ∷ bs → P) → ((bs : List ℕ) → text ≡ 43 ∷ bs → P) → ((bs : List ℕ) → text ≡ 45 ∷ bs → P)
    → ((b : ℕ) (bs : List ℕ) → text ≡ b ∷ bs → (b == 90) ≡ false → (b == 43) ≡ false → (b == 45) ≡ false → P) → P
by_zone text none z plus minus other =
    by_byte 90 text none z
    (λ b bs is no_z. by_byte 43 text none plus
    (λ c cs same no_plus. by_byte 45 text none minus
    (λ d ds also no_minus.
    let first : b ≡ c = head_same b c bs cs (sym is ∙ same) in
    let second : b ≡ d = head_same b d bs ds (sym is ∙ also) in
    other b bs is no_z (ap (λ x. x == 43) first ∙ no_plus) (ap (λ x. x == 45) second ∙ no_minus))))

zone_sound : (text rest : List ℕ) (v : ℤ) → zone_from text ≡ Ok (v, rest) → IsRead zone_from IsZone text rest v
zone_sound text rest v e =
    by_zone text
    (λ is. not_both (v, rest) 0 _ e (ap zone_from is ∙ no_zone))
    (λ bs is. subst (λ t. IsRead zone_from IsZone t rest v) (sym is) (utc_sound bs rest v (sym (ap zone_from is) ∙ e)))
    (λ bs is. subst (λ t. IsRead zone_from IsZone t rest v) (sym is) (sign_sound 43 false zone_before before_said bs rest v (sym (ap zone_from is) ∙ e)))
    (λ bs is. subst (λ t. IsRead zone_from IsZone t rest v) (sym is) (sign_sound 45 true zone_behind behind_said bs rest v (sym (ap zone_from is) ∙ e)))
    (λ b bs is z plus minus. not_both (v, rest) (length (b ∷ bs)) _ e (ap zone_from is ∙ zone_other b bs z plus minus))

zone_breaks : (text : List ℕ) (left : ℕ) → zone_from text ≡ Err left → Breaks zone_from IsZone text left
zone_breaks text left e =
    by_zone text
    (λ is. record {
      front = [];
      bad = [];
      parted = is;
      many = same_err 0 left _ (ap zone_from is ∙ no_zone) e;
      more = 90 ∷ [];
      value = pos 0;
      goes_on = utc refl refl;
      fails = λ b bs other at. absurd cc;
    })
    (λ bs is. not_both (pos 0, bs) left _ (ap zone_from is ∙ zone_utc bs) e)
    (λ bs is. subst (λ t. Breaks zone_from IsZone t left) (sym is) (sign_breaks 43 false zone_before before_said bs left (sym (ap zone_from is) ∙ e)))
    (λ bs is. subst (λ t. Breaks zone_from IsZone t left) (sym is) (sign_breaks 45 true zone_behind behind_said bs left (sym (ap zone_from is) ∙ e)))
    (λ b bs is z plus minus. record {
      front = [];
      bad = b ∷ bs;
      parted = is;
      many = same_err (length (b ∷ bs)) left _ (ap zone_from is ∙ zone_other b bs z plus minus) e;
      more = 90 ∷ [];
      value = pos 0;
      goes_on = utc refl refl;
      fails = λ c cs other at.
          let same : b ≡ c = cc in
          zone_other c other (ap (λ x. x == 90) (sym same) ∙ z) (ap (λ x. x == 43) (sym same) ∙ plus) (ap (λ x. x == 45) (sym same) ∙ minus);
    })

zone_complete : (front rest : List ℕ) (v : ℤ) → IsZone front v → Anything rest → zone_from (front ++ rest) ≡ Ok (v, rest)
zone_complete front rest v (utc is same) stops = ap (λ t. zone_from (t ++ rest)) is ∙ zone_utc rest ∙ ap (λ n. Ok (n, rest)) (sym same)
zone_complete front rest v (before text n said is same) stops =
    ap (λ t. zone_from (t ++ rest)) is ∙ sign_complete 43 false zone_before before_said text rest n said ∙ ap (λ z. Ok (z, rest)) (sym same)
zone_complete front rest v (behind_utc text n said is same) stops =
    ap (λ t. zone_from (t ++ rest)) is ∙ sign_complete 45 true zone_behind behind_said text rest n said ∙ ap (λ z. Ok (z, rest)) (sym same)

pub zone_reads : Reads zone_from IsZone Anything
zone_reads = record {
  some = record { text = 90 ∷ []; value = pos 0; is = utc refl refl };
  sound = zone_sound;
  breaks = zone_breaks;
  complete = zone_complete;
}

-- what a zone begins with ends decimals
ends_there : (c : ℕ) (zone text rest : List ℕ) → zone ≡ c ∷ text → NoDecimals (c ∷ (text ++ rest)) → NoDecimals (zone ++ rest)
ends_there c zone text rest is ends = subst (λ t. NoDecimals (t ++ rest)) (sym is) ends

zone_ends : (zone rest : List ℕ) (v : ℤ) → IsZone zone v → NoDecimals (zone ++ rest)
zone_ends zone rest v (utc is same) = ends_there 90 zone [] rest is (λ b bs at. let e : 90 ≡ b = cc in rw (← e) (refl, refl))
zone_ends zone rest v (before text n said is same) = ends_there 43 zone text rest is (λ b bs at. let e : 43 ≡ b = cc in rw (← e) (refl, refl))
zone_ends zone rest v (behind_utc text n said is same) = ends_there 45 zone text rest is (λ b bs at. let e : 45 ≡ b = cc in rw (← e) (refl, refl))

-- a moment

abbrev Zones : ℤ → ℕ → List ℕ → ℤ → Type 0
Zones day clock = Joined IsZone (λ z. IsGiven (moment_at day clock z))

abbrev Times : ℤ → List ℕ → ℤ → Type 0
Times day = Joined IsClockText (λ clock. Zones day clock)

abbrev Moments : List ℕ → ℤ → Type 0
Moments = Joined IsDateText (λ day. Behind 84 (Times day))

abbrev zone_reader : ℤ → ℕ → Reader ℤ
zone_reader day clock = joined zone_from (λ z rest. Ok (moment_at day clock z, rest))

abbrev time_reader : ℤ → Reader ℤ
time_reader day = joined clock_from (λ clock. zone_reader day clock)

abbrev pub moment_reader : Reader ℤ
moment_reader = joined day_from (λ day. behind 84 (time_reader day))

zones_read : (day : ℤ) (clock : ℕ) → Reads (zone_reader day clock) (Zones day clock) Anything
zones_read day clock =
    joined_reads zone_from (λ z rest. Ok (moment_at day clock z, rest)) IsZone (λ z. IsGiven (moment_at day clock z)) Anything Anything
    zone_reads
    (λ t z is. given_reads (moment_at day clock z) Anything)
    (λ z t v rest is ends. tt)

times_read : (day : ℤ) → Reads (time_reader day) (Times day) Anything
times_read day =
    joined_reads clock_from (λ clock. zone_reader day clock) IsClockText (λ clock. Zones day clock) NoDecimals Anything
    clock_reads
    (λ t clock is. zones_read day clock)
    (λ clock t v rest is ends.
    subst (λ front. NoDecimals (front ++ rest)) (sym is.parted)
    (subst NoDecimals (sym (append_assoc is.front is.rest rest)) (zone_ends is.front (is.rest ++ rest) is.value is.first)))

moment_said : (text : List ℕ) (micros : ℤ) → Moments text micros → IsMomentText text micros
moment_said text micros is =
    let times = is.second.is in
    let zones = times.second in
    record {
      date_text_is = is.front;
      day = is.value;
      date = is.first;
      clock_text_is = times.front;
      clock_micros = times.value;
      clock = times.first;
      zone_text = zones.front;
      offset = zones.value;
      zone = zones.first;
      spelled = is.parted ∙ ap (λ t. is.front ++ t) (is.second.parted ∙ ap (λ t. 84 ∷ t) (times.parted
          ∙ ap (λ t. times.front ++ t) (zones.parted ∙ ap (λ t. zones.front ++ t) zones.second.none ∙ append-nil zones.front)));
      number = zones.second.same;
    }

moment_parted : (text : List ℕ) (micros : ℤ) → IsMomentText text micros → Moments text micros
moment_parted text micros is = record {
  front = is.date_text_is;
  rest = 84 ∷ (is.clock_text_is ++ is.zone_text);
  value = is.day;
  parted = is.spelled;
  first = is.date;
  second = record {
    rest = is.clock_text_is ++ is.zone_text;
    parted = refl;
    is = record {
      front = is.clock_text_is;
      rest = is.zone_text;
      value = is.clock_micros;
      parted = refl;
      first = is.clock;
      second = record {
        front = is.zone_text;
        rest = [];
        value = is.offset;
        parted = sym (append-nil is.zone_text);
        first = is.zone;
        second = record { none = refl; same = is.number };
      };
    };
  };
}

pub moment_reads : Reads moment_reader IsMomentText Anything
moment_reads =
    complete_as moment_reader Moments Anything IsMomentText
    (joined_reads day_from (λ day. behind 84 (time_reader day)) IsDateText (λ day. Behind 84 (Times day)) Anything Anything
    day_reads
    (λ t day is. behind_reads 84 (time_reader day) (Times day) Anything (times_read day))
    (λ day t v rest is ends. tt))
    moment_said moment_parted
