-- A command's words, as clap takes them and as the grammar says them.
use Rattle.std.proofs.Common.{◌≡◌, ◌≢◌, ◌∙◌, refl, sym, ap, subst, ⊎_elim, ◌||◌, ℕ, ◌<◌, ◌^◌, Bool, true, false, List, [], ◌∷◌, Some, None, if◌then◌else◌, codes, decimal, arith}
use Rattle.std.proofs.lemmas.Fmt.{decimal_injective}
use Rattle.std.specs.Option.{ForSome}
use Rattle.std.proofs.lemmas.Option.{same_Some}
use Rattle.std.specs.Prelude.{Option, flat_map, option_map, unwrap_or}
use Rattle.std.specs.List.{list_any}
use Rattle.std.specs.Str.{bytes_eq}
use Rattle.clap.specs.Words.{App, Text, HasMatchesOf, fault_of, first_of, first_value, found_of, matches_of, is_simple_and_free, is_simple, kind_of}
use Rattle.clap.specs.Kinds.{Kinds, HasKind, IsAmong}
use Rattle.clap.specs.declared.error.Error.{Error}
use Rattle.clap.specs.declared.error.kind.ErrorKind.TheVariants.{OutOfMemory}
use Rattle.clap.specs.declared.parser.matches.ArgMatches.{ArgMatches}
use Rattle.clap.proofs.WalkLemmas.{first_value-rows}
use Rattle.program_words.specs.Options.{OptionRow, Given, spelled, AreOptions, value_of}
use Rattle.program_words.specs.Grammar.{AreWordsOf, IsAnswer, IsCheck, IsServe, IsSink, IsWorkload, Says, answer_options, check_options, serve_options, sink_options, workload_options}
use Rattle.program_words.specs.Serves.{AreServeValues, IsUpTo, IsWithin, most_connections, most_workers}
use Rattle.program_words.specs.Sinks.{AreSinkValues, format_word}
use Rattle.program_words.specs.Workloads.{AreWorkloadValues, most_invocations, most_number}
use Rattle.program_words.specs.declared.serve_words.ServeWords.{ServeWords}
use Rattle.program_words.specs.declared.sink_words.ReportFormat.{ReportFormat}
use Rattle.program_words.specs.declared.sink_words.ReportFormat.TheVariants.{Tap, Junit}
use Rattle.program_words.specs.declared.sink_words.SinkWords.{SinkWords}
use Rattle.program_words.specs.declared.workload_words.WorkloadWords.{WorkloadWords}
use Rattle.program_words.specs.Clap.{HasValues, IsPlain, are_names, made_app, is_stray}
use Rattle.program_words.specs.declared.command.Command.{Command}
use Rattle.program_words.specs.declared.command.Command.TheVariants.{Answer, Check, Serve, Sink, Workload, Help, Version}
use Rattle.program_words.proofs.Machine.{rest, after}
use Rattle.program_words.proofs.ClapRows.{value_made}
use Rattle.program_words.proofs.Walks.{all_there, taken_reading, read_taken}
use Rattle.program_words.proofs.Spellings.{reads_more}
use Rattle.program_words.proofs.Complete.{reads_all}

-- The words behind a command's, where clap takes them: its options, and the values that its matches have.
pub record IsTaken (name : Text) (os : List OptionRow) (word : Text) (others : List Text) : Type 0 where
  pub givens : List Given
  pub options : AreOptions os givens others
  pub values : (n : Text) → first_of n (matches_of (made_app name os) (word ∷ others)) ≡ value_of n givens

pub taken_options : (name : Text) (os : List OptionRow) (word : Text) (others : List Text) → list_any is_stray others ≡ false
    → fault_of (made_app name os) (word ∷ others) ≡ [] → IsTaken name os word others
taken_options name os word others none taken =
    let reading = taken_reading name os (word ∷ others) none taken in
    let r = reading.1 in
    let m = reads_more os others reading.0 none [] rest tt r.read in
    record {
      givens = m.more;
      options = record {
        in_words = m.gives.in_words;
        known = m.gives.known;
        values = m.gives.values;
        once = m.gives.once;
        whole = ap (λ (gs : List Given). all_there gs os) (sym m.all_is) ∙ r.there;
      };
      values = λ n. ap (first_of n) r.rows ∙ value_made reading.0 n ∙ ap (value_of n) m.all_is;
    }

pub options_taken : (name : Text) (os : List OptionRow) (word : Text) (others : List Text) (givens : List Given) → are_names os ≡ true → AreOptions os givens others
    → (list_any is_stray others ≡ false) × (fault_of (made_app name os) (word ∷ others) ≡ [])
options_taken name os word others givens names o =
    let all = reads_all os [] givens names o.known o.values o.once in
    let both : (list_any is_stray (flat_map spelled givens) ≡ false) × (fault_of (made_app name os) (word ∷ flat_map spelled givens) ≡ []) =
    (all.none, read_taken name os (word ∷ flat_map spelled givens) givens all.none all.read o.whole) in
    subst (λ (w : List Text). (list_any is_stray w ≡ false) × (fault_of (made_app name os) (word ∷ w) ≡ [])) (sym o.in_words) both

-- ---- what clap's calls say

-- An `Ok` of a parse.
pub parse_taken : (a b : App) (words : List Text) → a ≡ b → is_simple_and_free b ≡ true → (is_simple_and_free a ≡ true → fault_of a words ≡ []) → fault_of b words ≡ []
parse_taken a b words e free h = subst (λ (x : App). is_simple_and_free x ≡ true → fault_of x words ≡ []) e h free

pub parse_value : (a b : App) (words : List Text) (m : ArgMatches) (id : Text) → a ≡ b → is_simple b ≡ true → HasMatchesOf a words m
    → first_value (found_of m) id ≡ first_of id (matches_of b words)
parse_value a b words m id e simple h =
    first_value-rows (found_of m) id ∙ ap (first_of id) (subst (λ (x : App). HasMatchesOf x words m) e h simple).0

-- An error that isn't want of memory.
no_kind : (kinds : Kinds) (e : Error) → HasKind kinds e → kind_of e ≢ OutOfMemory → kinds ≢ []
no_kind kinds e h other none = ⊎_elim (λ m. other m) (λ among. subst (IsAmong (kind_of e)) none among) h

pub parse_refused : (a b : App) (words : List Text) (error : Error) → a ≡ b → is_simple_and_free b ≡ true
    → (is_simple_and_free a ≡ true → HasKind (fault_of a words) error) → kind_of error ≢ OutOfMemory → fault_of b words ≢ []
parse_refused a b words error e free h other =
    no_kind (fault_of b words) error (subst (λ (x : App). is_simple_and_free x ≡ true → HasKind (fault_of x words) error) e h free) other

-- ---- the commands

pub answer_plain : IsPlain (codes "answer") answer_options
answer_plain = record { word = refl; names = refl; simple = refl; free = refl }

pub check_plain : IsPlain (codes "check") check_options
check_plain = record { word = refl; names = refl; simple = refl; free = refl }

pub serve_plain : IsPlain (codes "serve") serve_options
serve_plain = record { word = refl; names = refl; simple = refl; free = refl }

pub sink_plain : IsPlain (codes "sink") sink_options
sink_plain = record { word = refl; names = refl; simple = refl; free = refl }

pub workload_plain : IsPlain (codes "workload") workload_options
workload_plain = record { word = refl; names = refl; simple = refl; free = refl }

-- values that are the same say the same
pub serve_through : (f g : Text → Option Text) (s : ServeWords) → ((n : Text) → f n ≡ g n) → AreServeValues f s → AreServeValues g s
serve_through f g s same v = record {
  config_is = sym (same (codes "config")) ∙ v.config_is;
  journal_is = sym (same (codes "journal")) ∙ v.journal_is;
  listen_is = sym (same (codes "listen")) ∙ v.listen_is;
  workers_are = sym (same (codes "workers")) ∙ v.workers_are;
  some_workers = v.some_workers;
  connections_are = sym (same (codes "connections")) ∙ v.connections_are;
  some_connections = v.some_connections;
}

pub values_through : (f g : Text → Option Text) (s : SinkWords) → ((n : Text) → f n ≡ g n) → AreSinkValues f s → AreSinkValues g s
values_through f g s same v = record {
  config_is = sym (same (codes "config")) ∙ v.config_is;
  server_is = sym (same (codes "server")) ∙ v.server_is;
  invocation_is = sym (same (codes "invocation")) ∙ v.invocation_is;
  is_id = v.is_id;
  format_is = sym (same (codes "format")) ∙ v.format_is;
  prefix_is = ap (λ (o : Option Text). unwrap_or o []) (sym (same (codes "prefix"))) ∙ v.prefix_is;
}

pub workload_through : (f g : Text → Option Text) (s : WorkloadWords) → ((n : Text) → f n ≡ g n) → AreWorkloadValues f s → AreWorkloadValues g s
workload_through f g s same v = record {
  journal_is = sym (same (codes "journal")) ∙ v.journal_is;
  number_is = sym (same (codes "number")) ∙ v.number_is;
  number_fits = v.number_fits;
  count_is = sym (same (codes "count")) ∙ v.count_is;
  some_count = v.some_count;
}

both_false : (a b : Bool) → (a || b) ≡ false → b ≡ false
both_false true b h = absurd (let no : true ≡ false = h in cc)
both_false false b h = h

-- what clap found in the words of a command that it takes
pub found_words : (name : Text) (table : List OptionRow) (words others : List Text) (found : ArgMatches) → IsPlain name table → words ≡ name ∷ others
    → list_any is_stray words ≡ false → fault_of (made_app name table) words ≡ []
    → ((n : Text) → first_value (found_of found) n ≡ first_of n (matches_of (made_app name table) words))
    → (givens : List Given) × AreWordsOf name table words givens × HasValues givens found
found_words name table words others found plain is none taken has =
    let t = taken_options name table name others
    (both_false (is_stray name) (list_any is_stray others) (ap (list_any is_stray) (sym is) ∙ none))
    (ap (fault_of (made_app name table)) (sym is) ∙ taken) in (
      t.givens,
      record { rest = others; command = is; options = t.options },
      λ n. has n ∙ ap (λ (w : List Text). first_of n (matches_of (made_app name table) w)) is ∙ t.values n,
    )

pub words_taken : (name : Text) (table : List OptionRow) (words : List Text) (givens : List Given) → IsPlain name table → AreWordsOf name table words givens
    → (list_any is_stray words ≡ false) × (fault_of (made_app name table) words ≡ [])
words_taken name table words givens plain a =
    let both = options_taken name table name a.rest givens plain.names a.options in
    subst (λ (w : List Text). (list_any is_stray w ≡ false) × (fault_of (made_app name table) w ≡ [])) (sym a.command)
    (ap (λ (b : Bool). b || list_any is_stray a.rest) plain.word ∙ both.0, both.1)

-- ---- the grammar is read in one way

pub same_givens : (os : List OptionRow) (words : List Text) (a b : List Given) → are_names os ≡ true → AreOptions os a words → AreOptions os b words → a ≡ b
same_givens os words a b names p q =
    let one : after os [] rest words ≡ Some a = ap (after os [] rest) p.in_words ∙ (reads_all os [] a names p.known p.values p.once).read in
    let two : after os [] rest words ≡ Some b = ap (after os [] rest) q.in_words ∙ (reads_all os [] b names q.known q.values q.once).read in
    let both : Some a ≡ Some b = sym one ∙ two in
    cc

behind_same : (first second : Text) (a b : List Text) → first ∷ a ≡ second ∷ b → a ≡ b
behind_same first second a b e = cc

pub same_words : (name : Text) (table : List OptionRow) (words : List Text) (a b : List Given) → IsPlain name table → AreWordsOf name table words a
    → AreWordsOf name table words b → a ≡ b
same_words name table words a b plain p q =
    let others : q.rest ≡ p.rest = behind_same name name q.rest p.rest (sym q.command ∙ p.command) in
    same_givens table p.rest a b plain.names p.options (subst (AreOptions table b) others q.options)

same_value : (n : Text) (a b : List Given) (x y : Text) → a ≡ b → value_of n a ≡ Some x → value_of n b ≡ Some y → x ≡ y
same_value n a b x y same p q = same_Some x y (sym p ∙ (ap (value_of n) same ∙ q))

same_answer : (words : List Text) (c j d k : Text) → IsAnswer words c j → IsAnswer words d k → Answer c j ≡ Answer d k
same_answer words c j d k p q =
    let givens = same_words (codes "answer") answer_options words p.givens q.givens answer_plain p.words_are q.words_are in
    ap (λ (x : Text). Answer x j) (same_value (codes "config") p.givens q.givens c d givens p.config_is q.config_is)
    ∙ ap (λ (x : Text). Answer d x) (same_value (codes "journal") p.givens q.givens j k givens p.journal_is q.journal_is)

same_check : (words : List Text) (j k : Text) → IsCheck words j → IsCheck words k → Check j ≡ Check k
same_check words j k p q =
    let givens = same_words (codes "check") check_options words p.givens q.givens check_plain p.words_are q.words_are in
    ap Check (same_value (codes "journal") p.givens q.givens j k givens p.journal_is q.journal_is)

same_format : (a b : ReportFormat) → format_word a ≡ format_word b → a ≡ b
same_format Tap Tap e = refl
same_format Junit Junit e = refl
same_format Tap Junit e = cc
same_format Junit Tap e = cc

same_values : (f : Text → Option Text) (s t : SinkWords) → AreSinkValues f s → AreSinkValues f t → s ≡ t
same_values f s t p q =
    let config : s.config ≡ t.config = same_Some s.config t.config (sym p.config_is ∙ q.config_is) in
    let server : s.server ≡ t.server = same_Some s.server t.server (sym p.server_is ∙ q.server_is) in
    let invocation : s.invocation ≡ t.invocation = same_Some s.invocation t.invocation (sym p.invocation_is ∙ q.invocation_is) in
    let format : s.format ≡ t.format = same_format s.format t.format (same_Some (format_word s.format) (format_word t.format) (sym p.format_is ∙ q.format_is)) in
    let prefix : s.prefix ≡ t.prefix = sym p.prefix_is ∙ q.prefix_is in
    λ i. record { config = config i; server = server i; invocation = invocation i; format = format i; prefix = prefix i }

same_number : (least most m n : ℕ) → most < 2 ^ 64 → IsWithin least most m → IsWithin least most n → decimal m ≡ decimal n → m ≡ n
same_number least most m n few p q same = decimal_injective m n (omega (arith, few, p.1)) (omega (arith, few, q.1)) same

same_option : (most : ℕ) (m n : Option ℕ) → most < 2 ^ 64 → ForSome m (IsUpTo most) → ForSome n (IsUpTo most)
    → option_map decimal m ≡ option_map decimal n → m ≡ n
same_option most None None few p q same = refl
same_option most None (Some n) few p q same = cc
same_option most (Some m) None few p q same = cc
same_option most (Some m) (Some n) few p q same =
    ap Some (same_number 1 most m n few (p m refl) (q n refl) (same_Some (decimal m) (decimal n) same))

same_serve_values : (f : Text → Option Text) (s t : ServeWords) → AreServeValues f s → AreServeValues f t → s ≡ t
same_serve_values f s t p q =
    let config : s.config ≡ t.config = same_Some s.config t.config (sym p.config_is ∙ q.config_is) in
    let journal : s.journal ≡ t.journal = same_Some s.journal t.journal (sym p.journal_is ∙ q.journal_is) in
    let listen : s.listen ≡ t.listen = same_Some s.listen t.listen (sym p.listen_is ∙ q.listen_is) in
    let workers : s.workers ≡ t.workers =
    same_number 1 most_workers s.workers t.workers (omega arith) p.some_workers q.some_workers
    (same_Some (decimal s.workers) (decimal t.workers) (sym p.workers_are ∙ q.workers_are)) in
    let connections : s.connections ≡ t.connections =
    same_option most_connections s.connections t.connections (omega arith) p.some_connections q.some_connections
    (sym p.connections_are ∙ q.connections_are) in
    λ i. record { config = config i; journal = journal i; listen = listen i; workers = workers i; connections = connections i }

same_serve : (words : List Text) (s t : ServeWords) → IsServe words s → IsServe words t → Serve s ≡ Serve t
same_serve words s t p q =
    let givens = same_words (codes "serve") serve_options words p.givens q.givens serve_plain p.words_are q.words_are in
    ap Serve (same_serve_values (λ n. value_of n q.givens) s t
    (serve_through (λ n. value_of n p.givens) (λ n. value_of n q.givens) s (λ n. ap (value_of n) givens) p.values_are) q.values_are)

same_sink : (words : List Text) (s t : SinkWords) → IsSink words s → IsSink words t → Sink s ≡ Sink t
same_sink words s t p q =
    let givens = same_words (codes "sink") sink_options words p.givens q.givens sink_plain p.words_are q.words_are in
    ap Sink (same_values (λ n. value_of n q.givens) s t
    (values_through (λ n. value_of n p.givens) (λ n. value_of n q.givens) s (λ n. ap (value_of n) givens) p.values_are) q.values_are)

same_workload_values : (f : Text → Option Text) (s t : WorkloadWords) → AreWorkloadValues f s → AreWorkloadValues f t → s ≡ t
same_workload_values f s t p q =
    let journal : s.journal ≡ t.journal = same_Some s.journal t.journal (sym p.journal_is ∙ q.journal_is) in
    let number : s.number ≡ t.number =
    same_number 0 most_number s.number t.number (omega arith) p.number_fits q.number_fits
    (same_Some (decimal s.number) (decimal t.number) (sym p.number_is ∙ q.number_is)) in
    let count : s.count ≡ t.count =
    same_number 1 most_invocations s.count t.count (omega arith) p.some_count q.some_count
    (same_Some (decimal s.count) (decimal t.count) (sym p.count_is ∙ q.count_is)) in
    λ i. record { journal = journal i; number = number i; count = count i }

same_workload : (words : List Text) (s t : WorkloadWords) → IsWorkload words s → IsWorkload words t → Workload s ≡ Workload t
same_workload words s t p q =
    let givens = same_words (codes "workload") workload_options words p.givens q.givens workload_plain p.words_are q.words_are in
    ap Workload (same_workload_values (λ n. value_of n q.givens) s t
    (workload_through (λ n. value_of n p.givens) (λ n. value_of n q.givens) s (λ n. ap (value_of n) givens) p.values_are) q.values_are)

-- the first word of a command
abbrev first_word_of : Command → Text
first_word_of (Answer c j) = codes "answer"
first_word_of (Check j) = codes "check"
first_word_of (Serve s) = codes "serve"
first_word_of (Sink s) = codes "sink"
first_word_of (Workload w) = codes "workload"
first_word_of Help = codes "--help"
first_word_of Version = codes "--version"

begins : (words : List Text) (a : Command) → Says words a → (others : List Text) × (words ≡ first_word_of a ∷ others)
begins words (Answer c j) p = (p.words_are.rest, p.words_are.command)
begins words (Check j) p = (p.words_are.rest, p.words_are.command)
begins words (Serve s) p = (p.words_are.rest, p.words_are.command)
begins words (Sink s) p = (p.words_are.rest, p.words_are.command)
begins words (Workload w) p = (p.words_are.rest, p.words_are.command)
begins words Help p = ([], p)
begins words Version p = ([], p)

front_same : (first second : Text) (a b : List Text) → first ∷ a ≡ second ∷ b → first ≡ second
front_same first second a b e = cc

same_first : (words : List Text) (a b : Command) → Says words a → Says words b → first_word_of a ≡ first_word_of b
same_first words a b p q =
    let one = begins words a p in
    let two = begins words b q in
    front_same (first_word_of a) (first_word_of b) one.0 two.0 (sym one.1 ∙ two.1)

-- the two are of one kind
abbrev SameKind : Command → Command → Type 0
SameKind (Answer c j) (Answer d k) = Unit {0}
SameKind (Check j) (Check k) = Unit {0}
SameKind (Serve s) (Serve t) = Unit {0}
SameKind (Sink s) (Sink t) = Unit {0}
SameKind (Workload s) (Workload t) = Unit {0}
SameKind Help Help = Unit {0}
SameKind Version Version = Unit {0}
SameKind a b = ⊥

-- a number of each command's word
number_of_word : Text → ℕ
number_of_word w =
    if bytes_eq w (codes "answer") then 0
    else (if bytes_eq w (codes "check") then 1
    else (if bytes_eq w (codes "serve") then 2
    else (if bytes_eq w (codes "sink") then 3
    else (if bytes_eq w (codes "--help") then 4
    else (if bytes_eq w (codes "--version") then 5 else 6)))))

abbrev number_of : Command → ℕ
number_of (Answer c j) = 0
number_of (Check j) = 1
number_of (Serve s) = 2
number_of (Sink s) = 3
number_of Help = 4
number_of Version = 5
number_of (Workload w) = 6

numbered : (a : Command) → number_of_word (first_word_of a) ≡ number_of a
unfolding number_of_word
numbered (Answer c j) = refl
numbered (Check j) = refl
numbered (Serve s) = refl
numbered (Sink s) = refl
numbered Help = refl
numbered Version = refl
numbered (Workload w) = refl

kind_is : (a b : Command) → number_of a ≡ number_of b → SameKind a b
kind_is (Answer c j) (Answer d k) e = tt
kind_is (Check j) (Check k) e = tt
kind_is (Serve s) (Serve t) e = tt
kind_is (Sink s) (Sink t) e = tt
kind_is Help Help e = tt
kind_is Version Version e = tt
kind_is (Workload s) (Workload t) e = tt
kind_is a b e = cc

same_kind : (a b : Command) → first_word_of a ≡ first_word_of b → SameKind a b
same_kind a b e = kind_is a b (sym (numbered a) ∙ (ap number_of_word e ∙ numbered b))

pub one_command : (words : List Text) (a b : Command) → Says words a → Says words b → a ≡ b
one_command words (Answer c j) (Answer d k) p q = same_answer words c j d k p q
one_command words (Check j) (Check k) p q = same_check words j k p q
one_command words (Serve s) (Serve t) p q = same_serve words s t p q
one_command words (Sink s) (Sink t) p q = same_sink words s t p q
one_command words Help Help p q = refl
one_command words Version Version p q = refl
one_command words (Workload s) (Workload t) p q = same_workload words s t p q
one_command words a b p q = absurd (same_kind a b (same_first words a b p q))
