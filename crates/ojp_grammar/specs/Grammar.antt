-- The shapes of the documents.
use Rattle.std.specs.Prelude.{ℕ, ◌+◌}
use Rattle.ojp_tables.specs.declared.names.TheConstants as names
use Rattle.ojp_values.specs.declared.kinds.Kind.TheVariants as kinds
use Rattle.ojp_grammar.specs.declared.refusals.Want.{Want}
use Rattle.ojp_grammar.specs.declared.refusals.Want.TheVariants.{Request, Delivery, Either}
use Rattle.ojp_grammar.specs.Syntax.{Syntax, text, both, either, many, element, leaf, list_of}

-- ---- parts

-- a reference to a stop
abbrev pub REF : Syntax
REF = leaf names.STOP_POINT_REF kinds.StopRef

-- a place
abbrev pub PLACE : Syntax
PLACE = element names.PLACE_REF REF

-- the origin with the start
abbrev pub FROM : Syntax
FROM = element names.ORIGIN (both PLACE (leaf names.DEP_ARR_TIME kinds.Moment))

-- a target
abbrev pub TO : Syntax
TO = element names.DESTINATION PLACE

-- ---- asks

abbrev pub TRIP_ASK : Syntax
TRIP_ASK = element names.OJP_TRIP_REQUEST (both FROM TO)

abbrev pub MULTI_ASK : Syntax
MULTI_ASK =
    both (text names.OJP_MULTI_POINT_TRIP_REQUEST)
    (both FROM (many 1 256 TO (text (names.OJP_MULTI_POINT_TRIP_REQUEST + 1))))

abbrev pub EVENT_ASK : Syntax
EVENT_ASK =
    element names.OJP_STOP_EVENT_REQUEST
    (both (element names.LOCATION (both PLACE (leaf names.DEP_ARR_TIME kinds.Moment)))
    (element names.PARAMS
    (both (leaf names.NUMBER_OF_RESULTS kinds.Number) (leaf names.STOP_EVENT_TYPE kinds.EventKind))))

abbrev pub POINTS_ASK : Syntax
POINTS_ASK = list_of names.OJP_EXCHANGE_POINTS_REQUEST 0 1 PLACE

-- an ask of one of the four services
abbrev pub ASK : Syntax
ASK = either TRIP_ASK (either MULTI_ASK (either EVENT_ASK POINTS_ASK))

-- ---- trips

-- the journey that is ridden
abbrev pub SERVICE : Syntax
SERVICE =
    element names.SERVICE
    (both (leaf names.OPERATING_DAY_REF kinds.Day)
    (both (leaf names.JOURNEY_REF kinds.Label)
    (both (leaf names.LINE_REF kinds.Label) (leaf names.OPERATOR_REF kinds.Code))))

-- a call at a stop
abbrev pub HALT : Syntax
HALT = both REF (both (leaf names.STOP_POINT_NAME kinds.Name) (leaf names.TIMETABLED_TIME kinds.Moment))

-- what a leg has behind its opening text
abbrev pub BEHIND_TRIP_LEG : Syntax
BEHIND_TRIP_LEG =
    both (element names.TIMED_LEG
    (both (element names.LEG_BOARD HALT) (both (element names.LEG_ALIGHT HALT) SERVICE)))
    (text (names.TRIP_LEG + 1))

abbrev pub LEG : Syntax
LEG = both (text names.TRIP_LEG) BEHIND_TRIP_LEG

-- legs, so many to so many, and the end of the trip
abbrev pub legs_of : ℕ → ℕ → Syntax
legs_of low high = many low high LEG (text (names.TRIP + 1))

abbrev pub TRIP : Syntax
TRIP =
    both (text names.TRIP)
    (both (leaf names.DURATION kinds.Seconds)
    (both (leaf names.START_TIME kinds.Moment)
    (both (leaf names.END_TIME kinds.Moment)
    (both (leaf names.TRANSFERS kinds.Count) (legs_of 1 86_401)))))

-- ---- faults

abbrev pub SUBJECT_STOP : Syntax
SUBJECT_STOP = leaf names.SUBJECT kinds.StopRef

-- a code with the stop or the region that it speaks of
abbrev pub FAULT_CODE : Syntax
FAULT_CODE =
    either (both (text names.SAME_STOP) SUBJECT_STOP)
    (either (both (text names.STOP_UNKNOWN) SUBJECT_STOP)
    (either (both (text names.NO_TRIP) SUBJECT_STOP)
    (either (both (text names.REGION_FAILED) (leaf names.SUBJECT kinds.Code)) (text names.NOT_SERVED))))

abbrev pub FAULT : Syntax
FAULT = element names.ERROR_CONDITION FAULT_CODE

-- ---- deliveries

abbrev pub TRIP_OUTCOME : Syntax
TRIP_OUTCOME = either FAULT (element names.TRIP_RESULT TRIP)

abbrev pub TRIP_DELIVERY : Syntax
TRIP_DELIVERY = element names.OJP_TRIP_DELIVERY TRIP_OUTCOME

-- a fault or a list, and a text behind
abbrev pub fault_or_list : ℕ → ℕ → Syntax → ℕ → Syntax
fault_or_list low high content close = either (both FAULT (text close)) (many low high content (text close))

-- the trip to one target of many, or that there is none
abbrev pub RESULT_OUTCOME : Syntax
RESULT_OUTCOME = either TRIP (element names.ERROR_CONDITION (both (text names.NO_TRIP) SUBJECT_STOP))

-- the result for one target of many
abbrev pub MULTI_RESULT : Syntax
MULTI_RESULT = element names.MULTI_POINT_TRIP_RESULT RESULT_OUTCOME

abbrev pub MULTI_DELIVERY : Syntax
MULTI_DELIVERY =
    both (text names.OJP_MULTI_POINT_TRIP_DELIVERY)
    (fault_or_list 1 256 MULTI_RESULT (names.OJP_MULTI_POINT_TRIP_DELIVERY + 1))

abbrev pub EVENT : Syntax
EVENT =
    element names.STOP_EVENT_RESULT
    (both REF (both (leaf names.ORDER kinds.Count) (both (leaf names.TIMETABLED_TIME kinds.Moment) SERVICE)))

abbrev pub EVENT_DELIVERY : Syntax
EVENT_DELIVERY =
    both (text names.OJP_STOP_EVENT_DELIVERY) (fault_or_list 0 100 EVENT (names.OJP_STOP_EVENT_DELIVERY + 1))

-- a region that meets at an exchange point, with the change time from its rides
abbrev pub NEIGHBOUR : Syntax
NEIGHBOUR =
    element names.NEIGHBOUR
    (both (leaf names.OPERATOR_REF kinds.Code) (leaf names.TRANSFER_DURATION kinds.Change))

abbrev pub POINT : Syntax
POINT =
    both (text names.EXCHANGE_POINT)
    (both (leaf names.OPERATOR_REF kinds.Code)
    (both REF
    (both (leaf names.TRANSFER_DURATION kinds.Change) (many 0 31 NEIGHBOUR (text (names.EXCHANGE_POINT + 1))))))

abbrev pub POINTS_DELIVERY : Syntax
POINTS_DELIVERY =
    both (text names.OJP_EXCHANGE_POINTS_DELIVERY)
    (fault_or_list 0 65_535 POINT (names.OJP_EXCHANGE_POINTS_DELIVERY + 1))

-- a delivery of one of the four services
abbrev pub REPLY : Syntax
REPLY = either TRIP_DELIVERY (either MULTI_DELIVERY (either EVENT_DELIVERY POINTS_DELIVERY))

-- ---- documents

abbrev pub REQUEST : Syntax
REQUEST = element names.OJP_REQUEST (element names.SERVICE_REQUEST ASK)

abbrev pub DELIVERY : Syntax
DELIVERY = element names.OJP_RESPONSE (element names.SERVICE_DELIVERY REPLY)

abbrev pub document : Syntax → Syntax
document content = both (text names.HEAD) (both content (text names.END))

-- what the documents that are meant have between head and end
abbrev pub content : Want → Syntax
content Request = REQUEST
content Delivery = DELIVERY
content Either = either REQUEST DELIVERY

-- the documents that are meant
abbrev pub wanted : Want → Syntax
wanted want = document (content want)
