mod RouteAnswers
