-- Packets that are lines of a request.
use Rattle.std.proofs.Common.{◌≡◌, ℕ, ◌≤◌, true, Some, List, [], ◌∷◌, ◌++◌, codes, refl, arith, inl, inr}
use Rattle.git_pkt.specs.Packets.{flush}
use Rattle.git_pkt.specs.declared.fault.Kind.TheVariants.{UnknownCommand}
use Rattle.git_msg.specs.Advertisement.{takes_command}
use Rattle.git_msg.specs.Arguments.{name_of, ReadsAs, alone, with_id}
use Rattle.git_msg.specs.declared.words.ObjectWord.{ObjectWord}
use Rattle.git_msg.specs.Lines.{HasFault, key_by, IsLine, Line, argument, command, delimiter, unkept}
use Rattle.git_msg.specs.Requests.{AreLines, Asks}
use Rattle.git_msg.specs.Asked.{fetch, ls_refs}
use Rattle.git_msg.specs.WrittenRequest.{text_line}
use Rattle.git_msg.specs.declared.arguments.Command.{Command}
use Rattle.git_msg.specs.declared.arguments.Command.TheVariants.{Fetch, LsRefs, ObjectInfo}
use Rattle.git_msg.specs.declared.flags.Flag.{Flag}
use Rattle.git_rows.specs.Worked.{all_a, at, fetch_done_packets, fetch_of, ls_refs_of, ls_refs_packets, name_a, offer_all, want_alone_packets}
use Rattle.git_rows.proofs.ObjectNamesByComputing.{all_a_is_name}
use Rattle.git_rows.proofs.TextsByComputing.{differ, no_error_by, some_same}

takes_all : (c : Command) → takes_command offer_all c ≡ true
takes_all LsRefs = refl
takes_all Fetch = refl
takes_all ObjectInfo = refl

pub ls_refs_command : (limit : ℕ) → IsLine offer_all limit [] (text_line (codes "command=ls-refs")) (command LsRefs)
ls_refs_command limit = (
  record {
    no_error = no_error_by (codes "command=ls-refs") refl;
    key = key_by (codes "command");
    value = Some (codes "ls-refs");
    has_key = record { word = codes "command"; is_capability = (refl, refl, refl); is_word = refl };
    allowed = (refl, ((LsRefs, refl), ((λ c e. takes_all c), tt)));
    line_is = refl;
  },
  tt,
)

pub fetch_command : (limit : ℕ) → IsLine offer_all limit [] (text_line (codes "command=fetch")) (command Fetch)
fetch_command limit = (
  record {
    no_error = no_error_by (codes "command=fetch") refl;
    key = key_by (codes "command");
    value = Some (codes "fetch");
    has_key = record { word = codes "command"; is_capability = (refl, refl, refl); is_word = refl };
    allowed = (refl, ((Fetch, refl), ((λ c e. takes_all c), tt)));
    line_is = refl;
  },
  tt,
)

pub agent_line : (limit : ℕ) → IsLine offer_all limit [] (text_line (codes "agent=a")) unkept
agent_line limit = (
  record {
    no_error = no_error_by (codes "agent=a") refl;
    key = key_by (codes "agent");
    value = Some (codes "a");
    has_key = record { word = codes "agent"; is_capability = (refl, refl, refl); is_word = refl };
    allowed = tt;
    line_is = tt;
  },
  tt,
)

-- the lines of a fetch up to its delimiter
abbrev pub fetch_begun : List Line
fetch_begun = command Fetch ∷ delimiter ∷ []

pub want_reads : ReadsAs Fetch offer_all (codes "want " ++ all_a) (with_id ObjectWord.Want name_a)
want_reads = record { is_argument = (refl, record { value = all_a; spelled = refl; states = all_a_is_name }); offered = refl }

pub done_reads : ReadsAs Fetch offer_all (codes "done") (alone Flag.Done)
done_reads = record { is_argument = (refl, record { value = []; spelled = refl; states = tt }); offered = refl }

pub want_line : (limit : ℕ) → 45 ≤ limit
    → IsLine offer_all limit fetch_begun (text_line (codes "want " ++ all_a)) (argument (with_id ObjectWord.Want name_a) 45)
want_line limit fits = record {
  is_text = record { no_error = no_error_by (codes "want " ++ all_a) refl; of = Fetch; asked = refl; reads = want_reads };
  long_is = refl;
  fits = fits;
}

-- the lines of a fetch with one want
abbrev pub want_lines : List Line
want_lines = command Fetch ∷ delimiter ∷ argument (with_id ObjectWord.Want name_a) 45 ∷ []

pub are_want_lines : (limit : ℕ) → 45 ≤ limit → AreLines offer_all limit [] want_alone_packets want_lines
are_want_lines limit fits = (fetch_command limit, ((refl, (tt, tt)), (want_line limit fits, tt)))

-- and with `done` after it
abbrev pub done_lines : List Line
done_lines = want_lines ++ argument (alone Flag.Done) 4 ∷ []

done_line : (limit : ℕ) → 49 ≤ limit → IsLine offer_all limit want_lines (text_line (codes "done")) (argument (alone Flag.Done) 4)
done_line limit fits = record {
  is_text = record { no_error = no_error_by (codes "done") refl; of = Fetch; asked = refl; reads = done_reads };
  long_is = refl;
  fits = fits;
}

pub are_done_lines : (limit : ℕ) → 49 ≤ limit → AreLines offer_all limit [] (want_alone_packets ++ at 72 (text_line (codes "done")) ∷ []) done_lines
are_done_lines limit fits = (fetch_command limit, ((refl, (tt, tt)), (want_line limit (omega arith), (done_line limit fits, tt))))

-- a fetch of one object, with `done`
pub asks_fetch : (limit : ℕ) → 49 ≤ limit → Asks offer_all limit fetch_done_packets (fetch (fetch_of (name_a ∷ []) true)) 49
asks_fetch limit fits = record {
  front = want_alone_packets ++ at 72 (text_line (codes "done")) ∷ [];
  last = at 81 flush;
  lines = done_lines;
  command = Fetch;
  whole = refl;
  ends = refl;
  taken = are_done_lines limit fits;
  once = refl;
  checks = ((Fetch, refl, (refl, (inl (omega arith), tt))), tt);
  asked_is = refl;
  kept_is = refl;
}

-- a request for references without arguments
pub asks_ls_refs : (limit : ℕ) → Asks offer_all limit ls_refs_packets (ls_refs (ls_refs_of [])) 0
asks_ls_refs limit = record {
  front = at 0 (text_line (codes "command=ls-refs")) ∷ [];
  last = at 20 flush;
  lines = command LsRefs ∷ [];
  command = LsRefs;
  whole = refl;
  ends = refl;
  taken = (ls_refs_command limit, tt);
  once = refl;
  checks = (refl, (tt, ((LsRefs, refl, tt), tt)));
  asked_is = refl;
  kept_is = refl;
}

no_command : (c : Command) → Some (codes "bundle-uri") ≡ Some (name_of c) → ⊥
no_command LsRefs e = differ (codes "bundle-uri") (codes "ls-refs") refl (some_same _ _ e)
no_command Fetch e = differ (codes "bundle-uri") (codes "fetch") refl (some_same _ _ e)
no_command ObjectInfo e = differ (codes "bundle-uri") (codes "object-info") refl (some_same _ _ e)

-- a command that is none of the three
pub unknown_command : (limit : ℕ) → HasFault offer_all limit [] (text_line (codes "command=bundle-uri")) UnknownCommand
unknown_command limit = inr (
  no_error_by (codes "command=bundle-uri") refl,
  inr (
    (codes "command", Some (codes "bundle-uri"), (refl, refl, refl)),
    inl (
      key_by (codes "command"),
      Some (codes "bundle-uri"),
      record { word = codes "command"; is_capability = (refl, refl, refl); is_word = refl },
      inr (refl, inl (λ named. no_command named.0 named.1, refl)),
    ),
  ),
)
