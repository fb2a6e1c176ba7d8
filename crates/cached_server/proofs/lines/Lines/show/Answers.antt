use Rattle.std.proofs.Common.{◌≡◌, ◌++◌, ◌∷◌, [], ap, sym, subst, ◌∙◌}
use Rattle.std.specs.Prelude.{OnOk, codes}
use Rattle.std.specs.Fmt.{decimal}
use Rattle.std.specs.Io.KnownBytes.{Appends}
use Rattle.std.proofs.lemmas.List.{append_assoc}
use Rattle.cache_run.specs.Devices.Watched.{device}
use Rattle.cached_server.specs.Lines.{listening_line}
use Rattle.cached_server.proofs.lines.Lines.show.Goals as goal

pub returns-clause-ok : goal.returns-clause-ok
returns-clause-ok g c =
    let a = g.W.Write.contents (device c.args.self.now.writer) in
    let b = g.W.Write.contents (device c.send_joined.new.self.writer) in
    let name = c.args.name.now in
    let digits = c.as_bytes-port.result.now in
    let port : digits ≡ decimal c.args.port = c.as_bytes-port.ensures.value ∙ c.format.ensures.text in
    let line : listening_line name c.args.port ≡ codes "listening " ++ (name ++ (codes " 127.0.0.1:" ++ (digits ++ 10 ∷ []))) =
    ap (λ l. codes "listening " ++ l)
    (append_assoc (name ++ codes " 127.0.0.1:") (decimal c.args.port) (10 ∷ []) ∙ append_assoc name (codes " 127.0.0.1:") (decimal c.args.port ++ 10 ∷ []))
    ∙ ap (λ d. codes "listening " ++ (name ++ (codes " 127.0.0.1:" ++ (d ++ 10 ∷ [])))) (sym port) in
    subst (λ text. OnOk c.send_joined.result (Appends a b text)) (sym line) c.send_joined.ensures.ok
