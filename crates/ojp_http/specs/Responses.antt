-- The bytes of requests and of responses.
use Rattle.std.specs.Prelude.{ℕ, ◌==◌, Bool, List, [], ◌∷◌, ◌++◌, if◌then◌else◌, codes, decimal, length, unwrap_or}
use Rattle.std.specs.List.{list_any}
use Rattle.http.specs.StatusCode.{code_digits, reason_phrase}

-- the statuses of responses with a body
abbrev pub is_answer_status : ℕ → Bool
is_answer_status status = list_any (λ n. n == status) (200 ∷ 400 ∷ 404 ∷ 405 ∷ 411 ∷ 413 ∷ 431 ∷ 501 ∷ [])

-- what a 405 names as allowed
abbrev pub allow_line : ℕ → List ℕ
allow_line status = if status == 405 then codes "Allow: POST\r\n" else []

-- a delivery is XML, a refusal is text
abbrev pub type_line : ℕ → List ℕ
type_line status = if status == 200 then codes "Content-Type: application/xml\r\n" else codes "Content-Type: text/plain\r\n"

-- the head of a response, by its parts (RFC 9112, sections 4 and 5)
abbrev pub head_text : List ℕ → List ℕ → List ℕ → List ℕ → List ℕ → List ℕ
head_text digits reason allow kind size =
    codes "HTTP/1.1 " ++ (digits ++ (codes " " ++ (reason ++ (codes "\r\n" ++ (allow ++ (kind ++ (codes "Content-Length: " ++ (size ++ codes "\r\nConnection: close\r\n\r\n"))))))))

-- the head of a response with so many bytes behind it
abbrev pub response_head : ℕ → ℕ → List ℕ
response_head status size = head_text (code_digits status) (unwrap_or (reason_phrase status) []) (allow_line status) (type_line status) (decimal size)

-- the whole response for want of memory
abbrev pub no_memory_response : List ℕ
no_memory_response = codes "HTTP/1.1 503 Service Unavailable\r\nContent-Length: 0\r\nConnection: close\r\n\r\n"

-- a whole request with this body
abbrev pub request_bytes : List ℕ → List ℕ → List ℕ
request_bytes host body =
    codes "POST /ojp HTTP/1.1\r\nHost: " ++ (host ++ (codes "\r\nContent-Type: application/xml\r\nContent-Length: " ++ (decimal (length body) ++ (codes "\r\nConnection: close\r\n\r\n" ++ body))))
