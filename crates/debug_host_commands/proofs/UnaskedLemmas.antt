-- What holds of a command whatever the words ask for.
use Rattle.std.proofs.Common.{◌≡◌, List, [], Option, Some, None}
use Rattle.cdp_edge.specs.Outside.{HandsIn, NamedFile}
use Rattle.cdp_edge.proofs.HandedLemmas.{given_nothing}
use Rattle.debug_host_options.specs.Requests.{Drill, Help, Replay, ReplayWords, Request, Run, Send, SendWords, Serve, ServeWords, Sources, Version}
use Rattle.debug_host_commands.specs.Status.{ForReplay, ForRun, ForSend, ForServe, GivenReplay, GivenRun, GivenSend, GivenServe}

pub for_run : (o : Option Request) (P : Sources → Type 0) → ((sources : Sources) → P sources) → ForRun o P
for_run None P all = tt
for_run (Some (Run request)) P all = all request.sources
for_run (Some (Replay request)) P all = tt
for_run (Some (Serve request)) P all = tt
for_run (Some (Send request)) P all = tt
for_run (Some (Drill n)) P all = tt
for_run (Some (Help topic)) P all = tt
for_run (Some Version) P all = tt

pub for_replay : (o : Option Request) (P : ReplayWords → Type 0) → ((request : ReplayWords) → P request) → ForReplay o P
for_replay None P all = tt
for_replay (Some (Run request)) P all = tt
for_replay (Some (Replay request)) P all = all request
for_replay (Some (Serve request)) P all = tt
for_replay (Some (Send request)) P all = tt
for_replay (Some (Drill n)) P all = tt
for_replay (Some (Help topic)) P all = tt
for_replay (Some Version) P all = tt

pub for_serve : (o : Option Request) (P : ServeWords → Type 0) → ((request : ServeWords) → P request) → ForServe o P
for_serve None P all = tt
for_serve (Some (Run request)) P all = tt
for_serve (Some (Replay request)) P all = tt
for_serve (Some (Serve request)) P all = all request
for_serve (Some (Send request)) P all = tt
for_serve (Some (Drill n)) P all = tt
for_serve (Some (Help topic)) P all = tt
for_serve (Some Version) P all = tt

pub for_send : (o : Option Request) (P : SendWords → Type 0) → ((request : SendWords) → P request) → ForSend o P
for_send None P all = tt
for_send (Some (Run request)) P all = tt
for_send (Some (Replay request)) P all = tt
for_send (Some (Serve request)) P all = tt
for_send (Some (Send request)) P all = all request
for_send (Some (Drill n)) P all = tt
for_send (Some (Help topic)) P all = tt
for_send (Some Version) P all = tt

-- ---- no file was handed in

module _ (asked : Option Request) (told : Option (List NamedFile)) (old new : List NamedFile) (same : new ≡ old) where
  pub unread_run : (P : Sources → List NamedFile → Type 0) → ((sources : Sources) → P sources [])
      → GivenRun asked (HandsIn told old new) P
  unread_run P all = for_run asked _ (λ sources. given_nothing told old new (P sources) same (all sources))

  pub unread_replay : (P : ReplayWords → List NamedFile → Type 0) → ((request : ReplayWords) → P request [])
      → GivenReplay asked (HandsIn told old new) P
  unread_replay P all = for_replay asked _ (λ request. given_nothing told old new (P request) same (all request))

  pub unread_serve : (P : ServeWords → List NamedFile → Type 0) → ((request : ServeWords) → P request [])
      → GivenServe asked (HandsIn told old new) P
  unread_serve P all = for_serve asked _ (λ request. given_nothing told old new (P request) same (all request))

  pub unread_send : (P : SendWords → List NamedFile → Type 0) → ((request : SendWords) → P request [])
      → GivenSend asked (HandsIn told old new) P
  unread_send P all = for_send asked _ (λ request. given_nothing told old new (P request) same (all request))
