use Rattle.someipctl_words.proofs.grammar.definition.Goals as goal

pub returns : goal.returns
returns c =
    let show = c.adding-show.ensures _ _ c.program_definition.ensures c.show_definition.ensures.shape in
    let payload = c.adding-payload.ensures _ _ show c.payload_definition.ensures.shape in
    let encode = c.adding-encode.ensures _ _ payload c.encode_definition.ensures.shape in
    let vectors = c.adding-vectors.ensures _ _ encode c.vectors_definition.ensures.shape in
    let run = c.adding-run.ensures _ _ vectors c.run_definition.ensures.shape in
    let recording = c.adding-recording.ensures _ _ run c.recording_definition.ensures.shape in
    let chart = c.adding-chart.ensures _ _ recording c.chart_definition.ensures.shape in
    let audit = c.adding-audit.ensures _ _ chart c.audit_definition.ensures.shape in
    let explore = c.adding-explore.ensures _ _ audit c.explore_definition.ensures.shape in
    let extract = c.adding-extract.ensures _ _ explore c.extract_definition.ensures.shape in
    let services = c.adding-services.ensures _ _ extract c.services_definition.ensures.shape in
    c.adding.ensures _ _ services c.stats_definition.ensures.shape
