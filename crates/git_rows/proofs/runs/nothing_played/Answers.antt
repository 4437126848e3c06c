use Rattle.std.proofs.Common.{true, false, List, [], ◌∷◌, codes, refl, arith, inr}
use Rattle.std.proofs.lemmas.List.Elements.{All-nil}
use Rattle.git_names.specs.Digits.{lower_digit}
use Rattle.git_names.specs.declared.object_format.Format.TheVariants.{Sha1}
use Rattle.git_pkt.specs.Escape.{escape_of}
use Rattle.git_pkt.specs.Packets.{Pkt, flush}
use Rattle.git_pkt.specs.Splits.{Given, Splits}
use Rattle.git_pkt.proofs.Spelling.{none_begins_nothing}
use Rattle.git_msg.specs.Admission.{IsAdmitted}
use Rattle.git_msg.specs.Advertisement.{noted_of}
use Rattle.git_msg.specs.declared.requests.Request.{Request}
use Rattle.git_client.specs.Conversation.{GiveAll, HasNoted, IsConversation}
use Rattle.git_client.specs.Events.{EventValue}
use Rattle.git_client.specs.Machine.Client.{ask_checks}
use Rattle.git_client.specs.Parts.{nearest}
use Rattle.git_client.proofs.EventsReceived.{later_questions}
use Rattle.git_msg.specs.Checks.{Passes}
use Rattle.git_server.specs.Admission.{barred}
use Rattle.git_server.specs.Answers.{advertisement_of, spelled}
use Rattle.git_server.specs.Sessions.{IsAnswered, IsEnding, Setting}
use Rattle.git_server.specs.declared.outcome.Outcome.TheVariants.{Flush}
use Rattle.git_laws.specs.Plays.{setting_of}
use Rattle.git_laws.specs.AnnouncedAnswers.{announced_offer}
use Rattle.git_rows.specs.Worked.{at, offer_all}
use Rattle.git_rows.specs.WorkedConversations.{terms}
use Rattle.git_rows.specs.WorkedRuns.{repo_state}
use Rattle.git_rows.specs.WorkedSessions.{repo}
use Rattle.git_rows.proofs.OpenRests.{open_nothing}
use Rattle.git_rows.proofs.WrittenPackets.{fit_by, placed, splits_written}
use Rattle.git_rows.proofs.runs.nothing_played.Goals as goal

-- the packets of the advertisement, each at its offset, and its bytes and events
abbrev offer : List Pkt
offer = advertisement_of offer_all

abbrev given : List Given
given = placed 0 offer

abbrev events : List EventValue
events = announced_offer offer_all

offer_splits : Splits 0 (spelled offer) given []
offer_splits = splits_written 0 offer [] refl none_begins_nothing

whole : GiveAll terms [] [] given events → IsConversation terms [] (spelled offer) events
whole gives = record { given = given; splits = offer_splits; gives = gives; all_flushes = refl; no_end_expected = refl }

noted : GiveAll terms [] [] given events → HasNoted terms [] (spelled offer) (noted_of (nearest given []))
noted gives = (
  given,
  events,
  record { given = given; rest = []; more = []; splits = offer_splits; cut = refl; gives = gives; stops = tt },
  refl,
)

-- the server's session: nothing was requested, and then the client left
abbrev served : Setting
served = setting_of terms 0 repo_state true

answered : IsAnswered served [] (spelled offer)
answered = record {
  asked = [];
  left = [];
  rest = [];
  answers = [];
  stream = record { packets = []; splits = record { spelled = refl; ends = none_begins_nothing }; requests = refl };
  begins = record { lines = []; taken = tt; admitted = All-nil (IsAdmitted (barred repo)) };
  unrefused = open_nothing;
  answered = refl;
  given_is = refl;
  fit = fit_by offer refl;
}

ending : IsEnding served (codes "0000") false (spelled offer) Flush []
unfolding lower_digit
ending = record {
  asked = [];
  left = at 0 flush ∷ [];
  rest = [];
  answers = [];
  sent = [];
  stream = record { packets = at 0 flush ∷ []; splits = splits_written 0 (flush ∷ []) [] refl none_begins_nothing; requests = refl };
  ends = (record { last = at 0 flush; alone = refl; ends = refl }, refl);
  answered = refl;
  parts = refl;
  given_is = refl;
  fit = fit_by offer refl;
}

pub returns-clause-whole : goal.returns-clause-whole
unfolding escape_of lower_digit
returns-clause-whole g c = let gives = c.received_offer.ensures.arrived terms [] offer_all given refl refl in record {
  h = record { asked = []; left = true; used = spelled offer; events = events; given = codes "0000" };
  rest = [];
  nothing_read = refl;
  announced = refl;
  arrived = later_questions terms [] [] (spelled offer) events (whole gives);
  asked = record {
    front = [];
    all = refl;
    asked = refl;
    may_be = λ caps is. All-nil (λ (request : Request _). Passes (ask_checks Sha1 caps request));
    in_turn = omega arith;
  };
  ends = record {
    first = record { content = codes "0000"; given = spelled offer };
    later = [];
    run = record {
      all = refl;
      whole = whole gives;
      leaves = refl;
      content = record
          { caps = noted_of (nearest given []); noted = noted gives; content = refl };
    };
    served = record { content = λ caps is. (refl, refl); gave = refl };
    sessions = record {
      questions = [];
      parts = refl;
      answered = answered;
      talks = record {
        used = codes "0000";
        unused = [];
        parts = refl;
        runs = inr (Flush, [], ending, λ lost. let other = lost.1 in cc);
      };
    };
  };
}

pub returns-clause-no_read_fails : goal.returns-clause-no_read_fails
returns-clause-no_read_fails g c = λ h. h.ends
