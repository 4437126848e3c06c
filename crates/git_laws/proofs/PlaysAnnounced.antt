-- What a play that ended well gives.
use Rattle.std.proofs.Common.{arith, ◌≡◌, ℕ, Bool, true, false, All, flat_map, map, List, [], ◌∷◌, ◌++◌, Option, None, IfSome, Ok}
use Rattle.std.proofs.Common.{refl, ap, sym, ◌∙◌, subst}
use Rattle.std.specs.List.{filter_map}
use Rattle.std.proofs.lemmas.List.{append-nil, append_cancel_right}
use Rattle.std.proofs.lemmas.List.Elements.{All-cons, All-head, All-map, All-nil, All-tail, All-weaker}
use Rattle.git_names.specs.ObjectName.{ObjectName}
use Rattle.git_names.specs.declared.object_format.Format.{Format}
use Rattle.git_pkt.specs.Packets.{Pkt, flush, resp_end}
use Rattle.git_pkt.specs.Splits.{Given}
use Rattle.git_msg.specs.Agents.{named_if}
use Rattle.git_msg.specs.declared.agent.Agent.{Agent}
use Rattle.git_msg.specs.declared.arguments.Command.{Command}
use Rattle.git_msg.specs.declared.arguments.Command.TheVariants.{LsRefs, Fetch, ObjectInfo}
use Rattle.git_msg.specs.declared.offers.Caps.{Caps}
use Rattle.git_msg.specs.declared.requests.Request.{Request}
use Rattle.git_msg.specs.Advertisement.{everything, noted_of, takes_command}
use Rattle.git_msg.specs.Arguments.{Arg, IsInRange, IsNameIn, IsValue, with_id, is_offered, row, word_of}
use Rattle.git_msg.specs.declared.flags.Flag.{Flag}
use Rattle.git_msg.specs.declared.words.Word.{Word}
use Rattle.git_msg.specs.declared.words.Word.TheVariants.{Flag as of_flag, Object as of_object, Text as of_text, Number as of_number}
use Rattle.git_msg.specs.declared.words.TextWord.{TextWord}
use Rattle.git_msg.specs.declared.words.NumberWord.{NumberWord}
use Rattle.git_msg.specs.declared.words.ObjectWord.{ObjectWord}
use Rattle.git_msg.specs.Asked.{Asked, HasValues, fetch, id_in, ls_refs, object_info}
use Rattle.git_msg.specs.Machine.HeldRequest.{asked_of, format_of}
use Rattle.git_msg.specs.Lines.{IsFormatMeant}
use Rattle.git_msg.proofs.FoundParts.{All-filter_map}
use Rattle.git_msg.proofs.RoundTrip.{meant_when_stated}
use Rattle.git_msg.proofs.WholeRequests.{lines_have_no_flush}
use Rattle.git_client.specs.Machine.Client.{History, questions_of, sent_of, spelled}
use Rattle.git_client.specs.Conversation.{GiveAll, HasNoted, IsConversation, Sounds}
use Rattle.git_client.specs.Events.{EventValue, pack_bytes}
use Rattle.git_client.specs.Parts.{Terms, advertisement_of, nearest, terms_by, terms_of}
use Rattle.git_client.specs.Transcript.{transcript_of}
use Rattle.git_client.specs.declared.events.Ending.{Ending}
use Rattle.git_client.specs.declared.events.Ending.TheVariants.{FlushOnly, ResponseEnd}
use Rattle.git_client.proofs.ConversationRules.{cut_at}
use Rattle.git_client.proofs.Determined.{one_note, same_sounds}
use Rattle.git_client.proofs.Sequences.{give_all_append, nearest-append}
use Rattle.git_server.specs.Answers.{AllFit, advertisement_of as server_sends}
use Rattle.git_server.specs.Repository.{IsSound, Repository, RepoState}
use Rattle.git_server.specs.Sessions.{AreAnswers, IsAnswered, Setting}
use Rattle.git_server.proofs.Sent.{spelled_both}
use Rattle.git_laws.specs.Plays.{IsWholePlay, Played, Talk, sent_each, setting_of, with_end}
use Rattle.git_laws.specs.AnnouncedAnswers.{AsksIn, CanBeWritten, announced_all, announced_offer, announced_play}
use Rattle.git_laws.proofs.ReceivingOffers.{format_meant, lines_stated, nearest_offer, noted_after_all, offer_received, offer_whole}
use Rattle.git_laws.proofs.ReceivingSessions.{AreEnded, all_arrived, ended_by_flush}
use Rattle.git_laws.proofs.RequestsReceived.{HaveValues, requests_are, written_all}
use Rattle.git_laws.proofs.SpelledPackets.{are_spelled, fit_both, fit_front, front_are, packets_are, requests_fit}

-- ---- the object names of a request that an answer repeats

have_named : (format : Format) (arg : Arg) → IsInRange format arg → IfSome (id_in ObjectWord.Have arg) (IsNameIn format)
have_named format (with_id ObjectWord.Have name) fits = fits
have_named format arg fits = tt

object_named : (format : Format) (arg : Arg) → IsInRange format arg → IfSome (id_in ObjectWord.ObjectId arg) (IsNameIn format)
object_named format (with_id ObjectWord.ObjectId name) fits = fits
object_named format arg fits = tt

-- the arguments that are object names have the format
names_in : (format : Format) (command : Command) (named : Arg → Option ObjectName)
    → ((arg : Arg) → IsValue command format arg → IfSome (named arg) (IsNameIn format)) → (args : List Arg)
    → All (IsValue command format) args → All (IsNameIn format) (filter_map named args)
names_in format command named is args values =
    All-filter_map (IsNameIn format) named args (All-weaker (IsValue command format) (λ arg. IfSome (named arg) (IsNameIn format)) is args values)

pub asks_in : (format : Format) (q : Asked) → HasValues format q → AsksIn format q
asks_in format (ls_refs q) values = tt
asks_in format (fetch q) values =
    names_in format Fetch (id_in ObjectWord.Have) (λ arg value. have_named format arg value.1) q values.allowed
asks_in format (object_info q) values =
    names_in format ObjectInfo (id_in ObjectWord.ObjectId) (λ arg value. object_named format arg value.1) q values.allowed

-- ---- what a server that advertises everything reads

pub takes_all : (format : Format) (command : Command) → takes_command (everything format) command ≡ true
takes_all format LsRefs = refl
takes_all format Fetch = refl
takes_all format ObjectInfo = refl

offers_word : (format : Format) (word : Word) → (row word).offered (everything format) ≡ true
offers_word format (of_flag Flag.Size) = refl
offers_word format (of_object ObjectWord.Want) = refl
offers_word format (of_text TextWord.Filter) = refl
offers_word format (of_number NumberWord.Deepen) = refl
offers_word format word = refl

pub offers_all : (format : Format) (arg : Arg) → is_offered (everything format) arg ≡ true
offers_all format arg = offers_word format (word_of arg)

-- of the written requests, the server has read and answered exactly these
pub stream_asks : (format : Format) (ending : Ending) (limit : ℕ) (state : RepoState) (advertise : Bool) (writes_agent : Option Agent) (writes_format : Bool)
    (asked : List Asked) {used given : List ℕ} → IsFormatMeant format writes_format → HaveValues asked
    → used ≡ spelled (written_all writes_agent writes_format format asked)
    → (a : IsAnswered (setting_of (terms_of format ending) limit state advertise) used given) → (a.asked ≡ asked) × All (HasValues format) asked
stream_asks format ending limit state advertise writes_agent writes_format asked {used} meant values e a =
    let ps = written_all writes_agent writes_format format asked in
    let spells = are_spelled used ps (requests_fit writes_agent writes_format format asked values) e in
    requests_are (setting_of (terms_of format ending) limit state advertise) writes_agent writes_format meant (takes_all format) (offers_all format)
    asked a.asked a.stream.packets a.left values (packets_are used ps a.stream.packets a.rest spells a.stream.splits)
    (lines_have_no_flush (everything format) limit [] a.left a.begins.lines a.begins.taken) a.stream.requests

-- ---- what a client notes and receives

-- the events of a whole conversation are those of its bytes
received_so : (t : Terms) (asked : List Asked) (used : List ℕ) (events : List EventValue) (c : IsConversation t asked used events)
    → Sounds t asked used c.given events
received_so t asked used events c = record {
  given = c.given;
  rest = [];
  more = [];
  splits = c.splits;
  cut = sym (append-nil c.given);
  gives = c.gives;
  stops = tt;
}

-- the advertisement names the format that is meant
meant_after : (t : Terms) (asked : List Asked) (used more : List ℕ) (events : List EventValue) (caps : Caps) → IsConversation t asked used events
    → HasNoted t asked used caps → AllFit (server_sends (everything t.format)) → used ≡ spelled (server_sends (everything t.format)) ++ more
    → IsFormatMeant t.format caps.object_format
meant_after t asked used more events caps c noted fit e =
    let (front, back, whole, are) =
    front_are 0 (server_sends (everything t.format)) more c.given [] fit
    (rw e at c.splits.spelled) c.splits.ends in
    let own : HasNoted t asked used (noted_of (advertisement_of (nearest c.given []))) = (c.given, events, received_so t asked used events c, refl) in
    let content = flush ∷ lines_stated (everything t.format) in
    let order : nearest c.given [] ≡ nearest back content =
    ap (λ (l : List Given). nearest l []) whole ∙ nearest-append front back [] ∙ ap (nearest back) (nearest_offer (everything t.format) front are) in
    let same : caps ≡ noted_of content =
    one_note t asked used caps (noted_of (advertisement_of (nearest c.given []))) noted own
    ∙ ap (λ (l : List Pkt). noted_of (advertisement_of l)) order ∙ noted_after_all (everything t.format) back in
    format_meant (everything t.format) t.format caps.object_format (ap (λ (k : Caps). k.object_format) same)

-- the events received of the advertisement and of the answers are those that they have
events_announced : (t : Terms) (repo : Repository) (asked : List Asked) (answers : List Pkt) (used : List ℕ) (events : List EventValue) → IsSound repo
    → CanBeWritten repo → repo.format ≡ t.format → All (HasValues t.format) asked → AreEnded t.ending repo asked answers
    → AllFit (server_sends (everything t.format) ++ answers) → used ≡ spelled (server_sends (everything t.format) ++ answers)
    → IsConversation t asked used events → events ≡ announced_play t.format repo asked
events_announced t repo asked answers used events sound written same values are fit e conversation =
    let offer = server_sends (everything t.format) in
    let first_events = announced_offer (everything t.format) in
    let s = are_spelled used (offer ++ answers) fit e in
    let c = cut_at s.given offer answers s.are in
    let arrived = offer_received t (everything t.format) c.first refl c.first_are asked in
    let asks : All (AsksIn t.format) asked = λ k d within. asks_in t.format _ (values k d within) in
    let answered = (all_arrived t repo sound written same asked [] [] (nearest c.first []) answers c.second asks are
    (offer_whole t (everything t.format) c.first refl c.first_are) c.second_are).0 in
    let all : GiveAll t asked [] s.given (first_events ++ announced_all repo asked) =
    rw c.whole (give_all_append t asked [] c.first c.second first_events (announced_all repo asked) arrived (rw (append-nil asked) at answered)) in
    (same_sounds t asked used conversation.given s.given events (first_events ++ announced_all repo asked) (received_so t asked used events conversation)
    (record { given = s.given; rest = []; more = []; splits = s.splits; cut = sym (append-nil s.given); gives = all; stops = tt })).events_are

-- ---- each ending

-- the values of a request are allowed in a request of some format
abbrev HasOwn : Asked → Type 0
HasOwn q = (format : Format) × HasValues format q

module _ (agent : Agent) (format : Format) (limit : ℕ) (state : RepoState) where
  -- the answers of servers that answer one request each
  record EachAnnounced (later : List Talk) (asked : List Asked) : Type 0 where
    packets : List Pkt
    fit : AllFit packets
    bytes : flat_map with_end later ≡ spelled packets
    are : AreEnded ResponseEnd state.answers asked packets
    in_format : All (HasValues format) asked

  abbrev silent : Setting
  silent = setting_of (terms_by agent format ResponseEnd) limit state false

  each_announced : (caps : Caps) → IsFormatMeant format caps.object_format → (later : List Talk) (asked : List Asked)
      → map (λ talk. talk.content) later ≡ sent_each (terms_by agent format ResponseEnd) caps asked
      → All (λ talk. IsAnswered silent talk.content talk.given) later → HaveValues asked → EachAnnounced later asked
  each_announced caps meant [] [] content all values = record { packets = []; fit = tt; bytes = refl; are = refl; in_format = All-nil (HasValues format) }
  each_announced caps meant [] (q ∷ asked) content all values = absurd (cc)
  each_announced caps meant (talk ∷ later) [] content all values = absurd (cc)
  each_announced caps meant (talk ∷ later) (q ∷ asked) content all values =
      let now : talk.content ≡ spelled (questions_of (terms_by agent format ResponseEnd) caps (q ∷ [])) = cc in
      let behind : map (λ talk. talk.content) later ≡ sent_each (terms_by agent format ResponseEnd) caps asked = cc in
      let a = All-head (λ (talk : Talk). IsAnswered silent talk.content talk.given) talk later all in
      let one = All-cons HasOwn q [] (All-head HasOwn q asked values) (All-nil HasOwn) in
      let read = stream_asks format ResponseEnd limit state false (named_if caps.agent agent) caps.object_format (q ∷ []) meant one now a in
      let (answer, more, parts, is, none) = subst (λ (l : List Asked). AreAnswers state.answers l a.answers) read.0 a.answered in
      let own : a.answers ≡ answer = simp (none, append-nil) at parts in
      let then = each_announced caps meant later asked behind (All-tail (λ (talk : Talk). IsAnswered silent talk.content talk.given) talk later all)
      (All-tail HasOwn q asked values) in
      let whole = answer ++ resp_end ∷ [] in
      record {
        packets = whole ++ then.packets;
        fit = fit_both whole then.packets (fit_both answer (resp_end ∷ []) (subst AllFit own a.fit) (omega arith, tt)) then.fit;
        bytes = simp (spelled_both, a.given_is, own, then.bytes);
        are = (answer, then.packets, refl, is, then.are);
        in_format = All-cons (HasValues format) q asked (All-head (HasValues format) q [] read.1) then.in_format;
      }

module _ {A : Type 0} (now : ℕ) (agent : Agent) (format : Format) (limit : ℕ) (state : RepoState) (sound : IsSound state.answers)
    (written : CanBeWritten state.answers) (same : state.answers.format ≡ format) where
  -- one server answers all requests
  announced_by_flush : (rest : List (Request A)) (h : History) → HaveValues h.asked → IsWholePlay now (terms_by agent format FlushOnly) limit state rest h
      → h.events ≡ announced_play format state.answers h.asked
  announced_by_flush rest h values p =
      let t = terms_by agent format FlushOnly in
      let repo = state.answers in
      let caps = p.run.content.caps in
      let a = p.sessions.answered in
      let content = p.served.content caps p.run.content.noted in
      let offer = server_sends (everything format) in
      let used : h.used ≡ spelled (offer ++ a.answers) = simp (content.0, append-nil) at p.served.gave ∙ a.given_is in
      let meant = meant_after t h.asked h.used (spelled a.answers) h.events caps p.run.whole p.run.content.noted (fit_front offer a.answers a.fit)
      (used ∙ spelled_both offer a.answers) in
      let messages = written_all (named_if caps.agent agent) caps.object_format format h.asked in
      let wrote : p.first.content ≡ spelled (messages ++ flush ∷ []) =
      content.1 ∙ p.run.content.content ∙ ap (λ (left : Bool). spelled (sent_of t caps h.asked left)) p.run.leaves in
      let questions : p.sessions.questions ≡ spelled messages =
      append_cancel_right p.sessions.questions (spelled messages) (spelled (flush ∷ []))
      (sym p.sessions.parts ∙ wrote ∙ spelled_both messages (flush ∷ [])) in
      let read = stream_asks format FlushOnly limit state true (named_if caps.agent agent) caps.object_format h.asked meant values questions a in
      let answered : AreAnswers repo h.asked a.answers = subst (λ (l : List Asked). AreAnswers repo l a.answers) read.0 a.answered in
      events_announced t repo h.asked a.answers h.used h.events sound written same read.1 (ended_by_flush repo h.asked a.answers answered) a.fit used
      p.run.whole

  -- the first server only advertises, and each request has a server of its own
  announced_by_ends : (rest : List (Request A)) (h : History) → HaveValues h.asked → IsWholePlay now (terms_by agent format ResponseEnd) limit state rest h
      → h.events ≡ announced_play format state.answers h.asked
  announced_by_ends rest h values p =
      let t = terms_by agent format ResponseEnd in
      let repo = state.answers in
      let caps = p.run.content.caps in
      let content = p.served.content caps p.run.content.noted in
      let offer = server_sends (everything format) in
      let first = p.sessions.0 in
      let none = stream_asks format ResponseEnd limit state true None true [] (meant_when_stated format) (All-nil HasOwn) content.0 first in
      let silence : first.answers ≡ [] = subst (λ (l : List Asked). AreAnswers repo l first.answers) none.0 first.answered in
      let only : offer ++ first.answers ≡ offer = rw silence (append-nil offer) in
      let fit : AllFit offer = subst AllFit only first.fit in
      let used : h.used ≡ spelled offer ++ flat_map with_end p.later =
      rw (append-nil h.used, first.given_is ∙ ap spelled only) at p.served.gave in
      let meant = meant_after t h.asked h.used (flat_map with_end p.later) h.events caps p.run.whole p.run.content.noted fit used in
      let each = each_announced agent format limit state caps meant p.later h.asked content.1 p.sessions.1 values in
      events_announced t repo h.asked each.packets h.used h.events sound written same each.in_format each.are (fit_both offer each.packets fit each.fit)
      (used ∙ ap (λ (bytes : List ℕ). spelled offer ++ bytes) each.bytes ∙ sym (spelled_both offer each.packets)) p.run.whole

  -- either ending
  announced_whole : (ending : Ending) (rest : List (Request A)) (h : History) → HaveValues h.asked
      → IsWholePlay now (terms_by agent format ending) limit state rest h → h.events ≡ announced_play format state.answers h.asked
  announced_whole FlushOnly rest h values p = announced_by_flush rest h values p
  announced_whole ResponseEnd rest h values p = announced_by_ends rest h values p

-- ---- the results of a play

pub as_announced : {A : Type 0} (now : ℕ) (t : Terms) (limit : ℕ) (state : RepoState) (requests : List (Request A)) (done : Unit {0})
    (read given : List (List ℕ))
    → Played now t limit state requests (Ok done) read given → IsSound state.answers → CanBeWritten state.answers → state.answers.format ≡ t.format
    → All (λ request. HasValues (format_of request) (asked_of request)) requests
    → given ≡ transcript_of (map asked_of requests) (announced_play t.format state.answers (map asked_of requests))
    ∷ pack_bytes (announced_all state.answers (map asked_of requests)) ∷ []
as_announced {A = A} now t limit state requests done read given p sound written same values =
    let h = p.h in
    let repo = state.answers in
    let all : requests ≡ p.asked.front =
    p.asked.all ∙ ap (λ (l : List (Request A)). p.asked.front ++ l) p.ends.run.all ∙ append-nil p.asked.front in
    let asked : h.asked ≡ map asked_of requests = p.asked.asked ∙ ap (map asked_of) (sym all) in
    let own : All (λ (request : Request A). HasOwn (asked_of request)) requests =
    All-weaker (λ (request : Request A). HasValues (format_of request) (asked_of request)) (λ (request : Request A). HasOwn (asked_of request))
    (λ request values. (format_of request, values)) requests values in
    let events = announced_whole now t.agent t.format limit state sound written same t.ending p.rest h
    (subst HaveValues (sym asked) (All-map HasOwn asked_of requests own)) p.ends in
    let announced = announced_play t.format repo in
    p.announced ∙ ap (λ (l : List EventValue). transcript_of h.asked l ∷ pack_bytes l ∷ []) events
    ∙ ap (λ (l : List Asked). transcript_of l (announced l) ∷ pack_bytes (announced l) ∷ []) asked
