-- What one more line adds to what is held of a script.
use Rattle.std.proofs.Common.{arith, ◌≡◌, ℕ, ◌+◌, ◌-◌, ◌≤◌, ◌==◌, true, false, Result, Ok, Err, List}
use Rattle.std.proofs.Common.{[], ◌∷◌, ◌++◌, Some, None, refl, ap, sym, ◌∙◌, subst, length, map, get_or, reverse, set}
use Rattle.std.proofs.Common.{append_assoc, length-append}
use Rattle.std.specs.Prelude.{MatchResult}
use Rattle.std.proofs.Math.Nat.{mul-le-mul_right}
use Rattle.std.proofs.Math.Seq.{get_or-append_seam}
use Rattle.std.proofs.lemmas.Bool.Decides.{nat_tests}
use Rattle.std.proofs.lemmas.List.{length-map, map-append, nil_from_length, same_from_push, set_at}
use Rattle.std.proofs.lemmas.List.Sums.{sum_by-append}
use Rattle.std.proofs.lemmas.List.Elements.{All-nil, All-pop, All-push}
use Rattle.git_names.specs.declared.object_format.Format.{Format}
use Rattle.git_pkt.specs.declared.fault.Kind.{Kind}
use Rattle.git_msg.specs.declared.offers.Offer.{Offer}
use Rattle.git_msg.specs.declared.arguments.Command.{Command}
use Rattle.git_msg.specs.declared.requests.Request.{Request}
use Rattle.git_msg.specs.Arguments.{Arg, IsArgumentFault, IsInRange, ReadsAs, name_of, stored_in, written_text}
use Rattle.git_msg.specs.Asked.{Asked, command_asked, nothing_asked, with_argument}
use Rattle.git_msg.specs.Checks.{Passes, Refuses}
use Rattle.git_msg.specs.Machine.HeldRequest.{IsEmpty, Keeps, add_checks, asked_of, command_of, format_of, holding_of, limit_of}
use Rattle.git_msg.specs.Memory.{HasRefused}
use Rattle.git_msg.specs.Kept.{Adds, IsNew, Kept}
use Rattle.git_msg.proofs.ArgumentsInOrder.{asked_snoc, command_for, same_command}
use Rattle.git_msg.proofs.AskedValues.{conveys_value}
use Rattle.git_msg.proofs.Rows.{argument_or_fault, one_argument}
use Rattle.git_msg.proofs.Values.{added_or_refused}
use Rattle.git_server.proofs.Refusals.{refused_within}
use Rattle.git_repository.specs.RepositoryLines.{longest_line}
use Rattle.git_repository.specs.declared.text_faults.LineFault.{LineFault}
use Rattle.git_repository.specs.declared.text_faults.LineFault.TheVariants.{Refused, OutOfMemory}
use Rattle.git2show_lib.specs.Scripts.{ScriptLine, blank, command, argument, MayFollow, open_after, request_of, requests_in}
use Rattle.git2show_lib.specs.Machine.HeldScripts.{Held, AddsArgument, Begins, FitsIn, GoesOn, HasOpen, Holds, IsBeginFault, IsLineFault, TakesLine}
use Rattle.git2show_lib.specs.Machine.HeldScripts.{nothing_held, with_requests}
use Rattle.git2show_lib.proofs.ScriptLists.{Cut, cut_of, few_requests, kept_more, open_more, requests_blank, requests_cut, requests_of_cut}

module _ {X : Type 0} where
  pub last_item : (items others : List X) (last d : X) → items ≡ others ++ last ∷ [] → get_or items (length items - 1) d ≡ last
  last_item items others last d is =
      let long : length items - 1 ≡ length others = omega (arith, ap length is, length-append others (last ∷ [])) in
      rw long (rw is (get_or-append_seam others last [] d))

  pub last_set : (items others : List X) (last x : X) → items ≡ others ++ last ∷ [] → set items (length items - 1) x ≡ others ++ x ∷ []
  last_set items others last x is =
      let long : length items - 1 ≡ length others = omega (arith, ap length is, length-append others (last ∷ [])) in
      rw long (rw is (set_at others last [] x (length others) refl))

-- what is kept is equal where its parts are
same_kept : (k l : Kept Asked) → k.format ≡ l.format → k.asked ≡ l.asked → k.kept ≡ l.kept → k.limit ≡ l.limit → k.stored ≡ l.stored → k ≡ l
same_kept k l formats asks counts limits sizes =
    ap (λ (f : Format). record { format = f; asked = k.asked; kept = k.kept; limit = k.limit; stored = k.stored }) formats
    ∙ ap (λ (q : Asked). record { format = l.format; asked = q; kept = k.kept; limit = k.limit; stored = k.stored }) asks
    ∙ ap (λ (n : ℕ). record { format = l.format; asked = l.asked; kept = n; limit = k.limit; stored = k.stored }) counts
    ∙ ap (λ (n : ℕ). record { format = l.format; asked = l.asked; kept = l.kept; limit = n; stored = k.stored }) limits
    ∙ ap (λ (n : ℕ). record { format = l.format; asked = l.asked; kept = l.kept; limit = l.limit; stored = n }) sizes

-- a new request has no arguments
new_request : (c : Command) (format : Format) (limit : ℕ) (k : Kept Asked) → IsNew (nothing_asked c) format limit k → k ≡ request_of format limit c []
new_request c format limit k new = same_kept k (request_of format limit c []) new.format_is new.asked new.kept new.limit_is new.stored

-- and one that keeps an argument more has it after the others
request_more : (c : Command) (format : Format) (limit : ℕ) (args : List Arg) (arg : Arg) (old new : Kept Asked) → old ≡ request_of format limit c args
    → Adds with_argument old arg (length (written_text arg)) new → new ≡ request_of format limit c (args ++ arg ∷ [])
request_more c format limit args arg old new is keeps =
    same_kept new (request_of format limit c (args ++ arg ∷ []))
    (keeps.format ∙ ap (λ (k : Kept Asked). k.format) is)
    (keeps.asked ∙ ap (λ (k : Kept Asked). with_argument k.asked arg) is ∙ sym (asked_snoc c args arg))
    (omega (arith, keeps.kept, ap (λ (k : Kept Asked). k.kept) is, sum_by-append (λ a. length (written_text a)) args (arg ∷ [])))
    (keeps.limit ∙ ap (λ (k : Kept Asked). k.limit) is)
    (omega (arith, keeps.stored, ap (λ (k : Kept Asked). k.stored) is, sum_by-append stored_in args (arg ∷ [])))

module _ {A : Type 0} where
  -- an argument that fits passes the checks
  fits_passes : (offer : Offer) (last : Request A) (text : List ℕ) (arg : Arg) → format_of last ≡ offer.format → FitsIn offer last text arg
      → Passes (add_checks last arg)
  fits_passes offer last text arg format h =
      let value = conveys_value (command_of last) offer.format text arg h.reads.is_argument in
      ((value.0, subst (λ (f : Format). IsInRange f arg) (sym format) value.1), (h.fits, tt))

  -- where the checks refuse the argument that a text is, no argument that fits is this text
  pub none_fits : (offer : Offer) (last : Request A) (text : List ℕ) (arg : Arg) (kind : Kind) → format_of last ≡ offer.format
      → ReadsAs (command_of last) offer text arg → Refuses (add_checks last arg) kind → (other : Arg) → FitsIn offer last text other → ⊥
  none_fits offer last text arg kind format reads refuses other fits =
      let same = one_argument (command_of last) offer.format text other arg fits.reads.is_argument reads.is_argument in
      added_or_refused last arg kind (fits_passes offer last text arg format (subst (FitsIn offer last text) same fits)) refuses

  pub fits_of_passes : (offer : Offer) (last : Request A) (text : List ℕ) (arg : Arg) → ReadsAs (command_of last) offer text arg
      → length text ≤ longest_line → Passes (add_checks last arg) → FitsIn offer last text arg
  fits_of_passes offer last text arg reads short passes = record { reads = reads; short = short; fits = passes.1.0 }

  pub holds_nothing : (offer : Offer) (limit : ℕ) → Holds {A = A} [] (nothing_held offer limit)
  holds_nothing offer limit = record { requests_are = refl; of_format = All-nil _; of_limit = All-nil _; open_as = refl }

  -- an empty line
  pub takes_blank : (old : Held A) (text : List ℕ) → text ≡ [] → TakesLine old text (with_requests old old.requests false)
  takes_blank old text empty lines h = record {
    line = blank;
    may_follow = empty;
    holds = record {
      requests_are = h.requests_are ∙ sym (requests_blank old.offer.format old.limit lines);
      of_format = h.of_format;
      of_limit = h.of_limit;
      open_as = open_more lines blank;
    };
    same_offer = refl;
    same_limit = refl;
  }

  none_open : (lines : List ScriptLine) (held : Held A) → held.is_open ≡ false → Holds lines held → open_after (reverse lines) ≡ None
  none_open lines held shut h = rw shut at h.open_as

  the_open : (lines : List ScriptLine) (held : Held A) → held.is_open ≡ true → Holds lines held → HasOpen lines held.requests
  the_open lines held opened h = rw opened at h.open_as

  -- a command, where no request is open
  begun : (old : Held A) (text : List ℕ) (of : Command) (request : Request A) → old.is_open ≡ false → text ≡ name_of of
      → IsEmpty of old.offer.format old.limit request → TakesLine old text (with_requests old (old.requests ++ request ∷ []) true)
  begun old text of request shut spelled empty lines h = record {
    line = command of;
    may_follow = (none_open lines old shut h, spelled);
    holds = record {
      requests_are =
          rw (map-append holding_of old.requests (request ∷ []), h.requests_are, new_request of old.offer.format old.limit (holding_of request) empty)
          (sym (requests_cut old.offer.format old.limit lines of []));
      of_format = All-push (λ (q : Request A). format_of q ≡ old.offer.format) old.requests request h.of_format empty.format_is;
      of_limit = All-push (λ (q : Request A). limit_of q ≡ old.limit) old.requests request h.of_limit empty.limit_is;
      open_as = record {
        others = old.requests;
        last = request;
        requests_are = refl;
        open_is = open_more lines (command of) ∙ ap (λ (c : Command). Some c) (sym (ap command_asked empty.asked ∙ command_for of []));
        kept_is = kept_more lines (command of) ∙ sym empty.kept;
      };
    };
    same_offer = refl;
    same_limit = refl;
  }

  -- why a command is not taken
  command_refused : (refuses : ℕ → Type 0) (each : ℕ) (old : Held A) (text : List ℕ) → old.is_open ≡ false → (text ≡ [] → ⊥)
      → IsBeginFault refuses each old text Refused → IsLineFault refuses each old text Refused
  command_refused refuses each old text shut some none lines h blank may = some may
  command_refused refuses each old text shut some none lines h (command c) may = none c may.1
  command_refused refuses each old text shut some none lines h (argument arg) may =
      let shut_is = none_open lines old shut h in let open_is = may.is_open in absurd (cc)

  -- a request more takes no more of a list than a line more
  one_more : (lines : List ScriptLine) (held : Held A) → Holds lines held → length held.requests + 1 ≤ length lines + 1
  one_more lines held h =
      let few = few_requests held.offer.format held.limit lines in
      omega (arith, few, ap length h.requests_are, length-map held.requests (holding_of {A = A}))

  -- the answer on a command, as one on a line
  pub stated_command : (refuses : ℕ → Type 0) (each : ℕ) (old new : Held A) (text : List ℕ) (result : Result (Unit {0}) LineFault) → old.is_open ≡ false
      → (text ≡ [] → ⊥)
      → MatchResult result (λ _. Begins old text new) (IsBeginFault refuses each old text)
      → MatchResult result (λ _. TakesLine old text new) (IsLineFault refuses each old text)
  stated_command refuses each old new text (Ok u) shut some b = rw b.new_is (begun old text b.of b.request shut b.spelled b.is_empty)
  stated_command refuses each old new text (Err Refused) shut some none = command_refused refuses each old text shut some none
  stated_command refuses each old new text (Err OutOfMemory) shut some is = λ lines h. record {
    item = command is.0;
    may = (none_open lines old shut h, is.1);
    takes_memory = tt;
    refused = refused_within refuses _ _ (mul-le-mul_right each (one_more lines old h)) is.2;
  }

  -- the last request has the format and the limit of them all
  last_format : (lines : List ScriptLine) (held : Held A) (h : Holds lines held) (o : HasOpen lines held.requests) → format_of o.last ≡ held.offer.format
  last_format lines held h o =
      (All-pop (λ (q : Request A). format_of q ≡ held.offer.format) held.requests o.others (Some o.last) o.requests_are h.of_format).1

  last_limit : (lines : List ScriptLine) (held : Held A) (h : Holds lines held) (o : HasOpen lines held.requests) → limit_of o.last ≡ held.limit
  last_limit lines held h o =
      (All-pop (λ (q : Request A). limit_of q ≡ held.limit) held.requests o.others (Some o.last) o.requests_are h.of_limit).1

  -- an argument that fits into the open request may follow, and no other
  may_follow : (lines : List ScriptLine) (held : Held A) (text : List ℕ) (arg : Arg) (h : Holds lines held) (o : HasOpen lines held.requests)
      → FitsIn held.offer o.last text arg → MayFollow held.offer held.limit lines text (argument arg)
  may_follow lines held text arg h o fits_in = record {
    of = command_of o.last;
    is_open = o.open_is;
    reads = fits_in.reads;
    short = fits_in.short;
    fits = omega (arith, fits_in.fits, o.kept_is, last_limit lines held h o);
  }

  fits_of_may_follow : (lines : List ScriptLine) (held : Held A) (text : List ℕ) (arg : Arg) (h : Holds lines held) (o : HasOpen lines held.requests)
      → MayFollow held.offer held.limit lines text (argument arg) → FitsIn held.offer o.last text arg
  fits_of_may_follow lines held text arg h o may =
      let open_is = o.open_is in
      let may_open = may.is_open in
      let same : may.of ≡ command_of o.last = cc in
      record {
        reads = subst (λ (c : Command). ReadsAs c held.offer text arg) same may.reads;
        short = may.short;
        fits = omega (arith, may.fits, o.kept_is, last_limit lines held h o);
      }

  -- what the lines contain with an argument more
  requests_more : (lines : List ScriptLine) (held : Held A) (arg : Arg) (request : Request A) (h : Holds lines held) (o : HasOpen lines held.requests)
      → Keeps o.last arg (length (written_text arg)) request
      → map holding_of (o.others ++ request ∷ []) ≡ requests_in held.offer.format held.limit (lines ++ argument arg ∷ [])
  requests_more lines held arg request h o keeps =
      let format = held.offer.format in
      let limit = held.limit in
      let c = command_of o.last in
      let cut : Cut lines c = cut_of lines c o.open_is in
      let same = same_from_push (map holding_of o.others) (requests_in format limit cut.front) (holding_of o.last) (request_of format limit c cut.args)
      (sym (map-append holding_of o.others (o.last ∷ [])) ∙ ap (map holding_of) (sym o.requests_are) ∙ h.requests_are
      ∙ requests_of_cut format limit lines c cut) in
      let more : Cut (lines ++ argument arg ∷ []) c = record {
        front = cut.front;
        args = cut.args ++ arg ∷ [];
        whole = ap (λ (ls : List ScriptLine). ls ++ argument arg ∷ []) cut.whole
            ∙ append_assoc cut.front (command c ∷ map argument cut.args) (argument arg ∷ [])
            ∙ ap (λ (ls : List ScriptLine). cut.front ++ command c ∷ ls) (sym (map-append argument cut.args (arg ∷ [])));
      } in
      map-append holding_of o.others (request ∷ [])
      ∙ ap (λ (qs : List (Kept Asked)). qs ++ holding_of request ∷ []) same.0
      ∙ ap (λ (q : Kept Asked). requests_in format limit cut.front ++ q ∷ [])
      (request_more c format limit cut.args arg (holding_of o.last) (holding_of request) same.1 keeps)
      ∙ sym (requests_of_cut format limit (lines ++ argument arg ∷ []) c more)

  -- an argument, where a request is open
  added : (lines : List ScriptLine) (old : Held A) (text : List ℕ) (h : Holds lines old) (o : HasOpen lines old.requests) (arg : Arg) (request : Request A)
      → FitsIn old.offer o.last text arg → Keeps o.last arg (length (written_text arg)) request
      → GoesOn lines old text (with_requests old (o.others ++ request ∷ []) true)
  added lines old text h o arg request fits_in keeps =
      let formats = All-pop (λ (q : Request A). format_of q ≡ old.offer.format) old.requests o.others (Some o.last) o.requests_are h.of_format in
      let limits = All-pop (λ (q : Request A). limit_of q ≡ old.limit) old.requests o.others (Some o.last) o.requests_are h.of_limit in
      record {
        line = argument arg;
        may_follow = may_follow lines old text arg h o fits_in;
        holds = record {
          requests_are = requests_more lines old arg request h o keeps;
          of_format = All-push (λ (q : Request A). format_of q ≡ old.offer.format) o.others request formats.0 (keeps.format ∙ formats.1);
          of_limit = All-push (λ (q : Request A). limit_of q ≡ old.limit) o.others request limits.0 (keeps.limit ∙ limits.1);
          open_as = record {
            others = o.others;
            last = request;
            requests_are = refl;
            open_is =
                open_more lines (argument arg)
                ∙ o.open_is
                ∙ ap (λ (c : Command). Some c) (sym (ap command_asked keeps.asked ∙ same_command (asked_of o.last) arg));
            kept_is = kept_more lines (argument arg) ∙ ap (λ (n : ℕ). n + length (written_text arg)) o.kept_is ∙ sym keeps.kept;
          };
        };
        same_offer = refl;
        same_limit = refl;
      }

  -- why an argument is not taken
  argument_refused : (refuses : ℕ → Type 0) (each : ℕ) (old new : Held A) (text : List ℕ) → old.is_open ≡ true → (text ≡ [] → ⊥)
      → AddsArgument refuses old text new (Err Refused) → IsLineFault refuses each old text Refused
  argument_refused refuses each old new text opened some adds lines h blank may = some may
  argument_refused refuses each old new text opened some adds lines h (command c) may =
      let o = the_open lines old opened h in let open_is = o.open_is in let shut_is = may.0 in absurd (cc)
  argument_refused refuses each old new text opened some adds lines h (argument arg) may =
      let o = the_open lines old opened h in
      adds o.others o.last o.requests_are (last_format lines old h o) opened arg (fits_of_may_follow lines old text arg h o may)

  -- the answer on an argument, as one on a line
  pub stated_argument : (refuses : ℕ → Type 0) (each : ℕ) (old new : Held A) (text : List ℕ) (result : Result (Unit {0}) LineFault) → old.is_open ≡ true
      → (text ≡ [] → ⊥)
      → AddsArgument refuses old text new result → MatchResult result (λ _. TakesLine old text new) (IsLineFault refuses each old text)
  stated_argument refuses each old new text (Ok u) opened some adds = λ lines h.
      let o = the_open lines old opened h in
      let a = adds o.others o.last o.requests_are (last_format lines old h o) opened in
      rw a.new_is (added lines old text h o a.arg a.request a.fits_in a.keeps)
  stated_argument refuses each old new text (Err Refused) opened some adds = argument_refused refuses each old new text opened some adds
  stated_argument refuses each old new text (Err OutOfMemory) opened some adds = λ lines h.
      let o = the_open lines old opened h in
      let a = adds o.others o.last o.requests_are (last_format lines old h o) opened in
      record {
        item = argument a.0;
        may = may_follow lines old text a.0 h o a.1;
        takes_memory = a.2;
        refused = subst (HasRefused refuses) (last_limit lines old h o) a.3;
      }

  -- the request that is lent for writing is the last
  pub last_now : (items others : List (Request A)) (last now : Request A) (n : ℕ) → n ≡ length items → now ≡ get_or items (n - 1) now
      → items ≡ others ++ last ∷ [] → now ≡ last
  last_now items others last now n long at is =
      at ∙ rw long (last_item items others last now is)

  pub same_held : (old : Held A) (others : List (Request A)) (last request : Request A) (n : ℕ) → n ≡ length old.requests
      → old.requests ≡ others ++ last ∷ [] → old.is_open ≡ true
      → with_requests old (set old.requests (n - 1) request) old.is_open ≡ with_requests old (others ++ request ∷ []) true
  same_held old others last request n long is opened =
      rw (long, last_set old.requests others last request is, opened) refl

  -- a text that is no argument of the request is none that fits
  pub none_reads : (offer : Offer) (last : Request A) (text : List ℕ) (kind : Kind) → IsArgumentFault (command_of last) offer text kind → (arg : Arg)
      → FitsIn offer last text arg → ⊥
  none_reads offer last text kind fault arg fits = argument_or_fault (command_of last) offer text arg kind fits.reads fault

pub no_bytes : (text : List ℕ) → (length text == 0) ≡ true → text ≡ []
no_bytes text e = nil_from_length text (let n = length text in grind (arith, nat_tests))

pub some_bytes : (text : List ℕ) → (length text == 0) ≡ false → text ≡ [] → ⊥
some_bytes text e none = let long : length text ≡ 0 = ap length none in grind (arith, nat_tests)
